-- The ring's producer at the beginning of a writing.
use Rattle.std.proofs.Common.{◌≡◌, ℕ, ◌%◌, refl, sym, subst, arith, List, length, slice_index, Some}
use Rattle.verbs_types.specs.declared.completion.EventRecord.{EventRecord}
use Rattle.cqe_format.specs.Bytes.{entry_bytes, with_owner}
use Rattle.cqe_format.specs.Event.{IsEqe}
use Rattle.cqe_format.proofs.Owners.{event_apart}
use Rattle.owner_ring.specs.Place.{owner_bit}
use Rattle.owner_ring.specs.Producer.{next_index}
use Rattle.owner_ring.specs.ProducerView.{ProducerView, opened}
use Rattle.eq_pair.specs.DeviceInside.{IsAtWork}

-- a writing begins
pub begins : (event : EventRecord) (p new : ProducerView) (words : List ℕ) → new ≡ opened p words → length words ≡ 8 → slice_index words 7 % 2 ≡ 0 → IsEqe event (entry_bytes words) → IsAtWork (Some event) new.task new.side
begins event p new words is long clear spelled =
    let owner : ℕ = owner_bit p.place (next_index p.side) in
    let begun : IsAtWork (Some event) (opened p words).task (opened p words).side = record { words = with_owner words owner; task_is = refl; spelled = event_apart event words owner long clear (omega arith) spelled; filling = tt } in
    subst (λ (v : ProducerView). IsAtWork (Some event) v.task v.side) (sym is) begun
