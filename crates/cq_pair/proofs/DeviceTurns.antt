-- A turn of the ring's producer, as a turn of the queue's device.
use Rattle.std.proofs.Common.{◌≡◌, ◌⊎◌, inl, inr, ℕ, ◌%◌, ◌≤◌, refl, ap, sym, ◌∙◌, subst, arith, Bool, true, false, List, length, slice_index, Option, Some, None, IsSome}
use Rattle.bus_core.specs.declared.operation.BusEntry.{BusEntry}
use Rattle.bus_core.specs.declared.turn.Step.{Step}
use Rattle.bus_core.specs.declared.turn.Step.TheVariants.{More, Gave, Done}
use Rattle.bus_core.specs.Operation.{IsLoad}
use Rattle.cqe_format.specs.declared.completion.Cqe.{Cqe}
use Rattle.cqe_format.specs.Bytes.{entry_bytes, with_owner}
use Rattle.cqe_format.specs.Completion.{IsCqe}
use Rattle.cqe_format.proofs.Owners.{completion_apart}
use Rattle.owner_ring.specs.declared.place.RingPlace.{RingPlace}
use Rattle.owner_ring.specs.declared.producer.Published.{Published}
use Rattle.owner_ring.specs.declared.producer.Published.TheVariants as ring_answers
use Rattle.owner_ring.specs.Place.{owner_bit}
use Rattle.owner_ring.specs.Producer.{Producer, Ready, Filling, next_index}
use Rattle.owner_ring.specs.ProducerView.{ProducerView, ProducerTurn}
use Rattle.owner_ring.specs.ProducerView as ring_side
use Rattle.owner_ring.specs.Turn as ring_turn
use Rattle.owner_ring.proofs.Slots.{touches_record}
use Rattle.cq_pair.specs.declared.place.CqPlace.{CqPlace}
use Rattle.cq_pair.specs.declared.device.CqSeen.{CqSeen}
use Rattle.cq_pair.specs.declared.device.CqSeen.TheVariants as answers
use Rattle.cq_pair.specs.Place.{ring_of}
use Rattle.cq_pair.specs.Device.{Spells, is_full, published_as}
use Rattle.cq_pair.specs.DeviceView.{DeviceView, DeviceTurn, answer_says, publish_turns, turns_left}
use Rattle.cq_pair.specs.Turn.{task_after}
use Rattle.cq_pair.specs.DeviceInside.{device_with, IsAtWork}

-- what the ring says is a publication of the words at work, or no publication
said_spells : (completion : Cqe) (words : List ℕ) (answer : Step (Unit {0}) Published) → IsCqe completion (entry_bytes words) → Spells completion (ring_side.answer_says (Some words) answer)
said_spells completion words More spelled = tt
said_spells completion words (Gave part) spelled = tt
said_spells completion words (Done (ring_answers.At index)) spelled = spelled
said_spells completion words (Done (ring_answers.Full index ci)) spelled = tt

abbrev answer_of : Step (Unit {0}) Published → Step (Unit {0}) CqSeen
answer_of More = More
answer_of (Gave part) = More
answer_of (Done (ring_answers.At index)) = Done (answers.Published index)
answer_of (Done (ring_answers.Full index ci)) = Done (answers.Overrun index ci)

abbrev overruns : Step (Unit {0}) Published → Bool
overruns More = false
overruns (Gave part) = false
overruns (Done (ring_answers.At index)) = false
overruns (Done (ring_answers.Full index ci)) = true

same_overrun : (words : List ℕ) (answer : Step (Unit {0}) Published) → overruns answer ≡ is_full (ring_side.answer_says (Some words) answer)
same_overrun words More = refl
same_overrun words (Gave part) = refl
same_overrun words (Done (ring_answers.At index)) = refl
same_overrun words (Done (ring_answers.Full index ci)) = refl

same_says : (completion : Cqe) (words : List ℕ) (answer : Step (Unit {0}) Published) → answer_says (Some completion) (answer_of answer) ≡ published_as completion (ring_side.answer_says (Some words) answer)
same_says completion words More = refl
same_says completion words (Gave part) = refl
same_says completion words (Done (ring_answers.At index)) = refl
same_says completion words (Done (ring_answers.Full index ci)) = refl

same_task : (task : Option Cqe) (answer : Step (Unit {0}) Published) → task_after task answer ≡ task_after task (answer_of answer)
same_task task More = refl
same_task task (Gave part) = refl
same_task task (Done (ring_answers.At index)) = refl
same_task task (Done (ring_answers.Full index ci)) = refl

same_turns : (words : List ℕ) (side : Producer) → ring_side.turns_left (Some words) side ≡ publish_turns side
same_turns words (Ready index) = refl
same_turns words (Filling index stores) = refl

few_turns : (completion : Cqe) (words : List ℕ) (side : Producer) (seen : ℕ) (answer : Step (Unit {0}) Published) →
    turns_left (task_after (Some completion) answer) (record { producer = side; overrun = overruns answer; seen = seen }) ≤ ring_side.turns_left (ring_turn.task_after (Some words) (ring_side.answer_says (Some words) answer)) side
few_turns completion words side seen More = omega (arith, same_turns words side)
few_turns completion words side seen (Gave part) = omega (arith, same_turns words side)
few_turns completion words side seen (Done (ring_answers.At index)) = omega arith
few_turns completion words side seen (Done (ring_answers.Full index ci)) = omega arith

module _ (place : CqPlace) (completion : Cqe) (words : List ℕ) (spelled : IsCqe completion (entry_bytes words)) where
  abbrev old : Producer → ℕ → ProducerView
  old side seen = record { place = ring_of place; side = side; task = Some words; seen = seen }

  published_at : (side : Producer) (seen : ℕ) (new : ProducerView) (e : BusEntry) (answer : Step (Unit {0}) Published) → ProducerTurn (old side seen) new e answer →
      DeviceTurn (device_with place false (Some completion) (old side seen)) (device_with place (overruns answer) (task_after (Some completion) answer) new) e (answer_of answer)
  published_at side seen new e answer t = record {
    may = record { runs = refl; ring = t.may; spells = subst (Spells completion) t.says (said_spells completion words answer spelled) };
    inside = t.inside;
    side = λ i. record { producer = t.side i; overrun = (same_overrun words answer ∙ ap is_full t.says) i; seen = t.seen i };
    says = same_says completion words answer ∙ ap (published_as completion) t.says;
    task = same_task (Some completion) answer;
    fewer =
        let left : new.task ≡ ring_turn.task_after (Some words) (ring_side.answer_says (Some words) answer) = t.task ∙ ap (ring_turn.task_after (Some words)) (sym t.says) in
        omega (arith, t.fewer, ap (λ (task : Option (List ℕ)). ring_side.turns_left task new.side) left, few_turns completion words new.side new.seen answer, same_turns words side);
    place = refl;
  }

  published_with : (place' : RingPlace) (side : Producer) (task : Option (List ℕ)) (seen : ℕ) (new : ProducerView) (e : BusEntry) (answer : Step (Unit {0}) Published) → place' ≡ ring_of place → task ≡ Some words →
      ProducerTurn (record { place = place'; side = side; task = task; seen = seen }) new e answer →
      DeviceTurn (device_with place false (Some completion) (old side seen)) (device_with place (overruns answer) (task_after (Some completion) answer) new) e (answer_of answer)
  published_with place' side task seen new e answer same task_is t =
      let at_place = subst (λ (p : RingPlace). ProducerTurn (record { place = p; side = side; task = task; seen = seen }) new e answer) same t in
      published_at side seen new e answer (subst (λ (w : Option (List ℕ)). ProducerTurn (record { place = ring_of place; side = side; task = w; seen = seen }) new e answer) task_is at_place)

published : (place : CqPlace) (task : Option Cqe) (p new : ProducerView) (e : BusEntry) (answer : Step (Unit {0}) Published) → p.place ≡ ring_of place → IsSome task → IsAtWork task false p.task → ProducerTurn p new e answer →
    DeviceTurn (device_with place false task p) (device_with place (overruns answer) (task_after task answer) new) e (answer_of answer)
published place None p new e answer same busy work t = absurd cc
published place (Some completion) p new e answer same busy work t = published_with place completion work.words work.spelled p.place p.side p.task p.seen new e answer same work.task_is t

-- a load that drops a completion
dropped : (place : CqPlace) (p : ProducerView) (e : BusEntry) (task : Option Cqe) → IsSome task → IsLoad place.dbr e → DeviceTurn (device_with place true task p) (device_with place true None p) e (Done answers.Lost)
dropped place p e None busy load = absurd cc
dropped place p e (Some completion) busy load = record {
  may = record { stopped = refl; load = load };
  inside = rw load.at_address (touches_record (ring_of place));
  side = refl;
  says = refl;
  task = refl;
  fewer = omega arith;
  place = refl;
}

-- a device at work in a queue that has not overrun, as its caller sees it
pub record IsRunning (place : CqPlace) (overrun : Bool) (task : Option Cqe) (p : ProducerView) (d : DeviceView) : Type 0 where
  pub same : p.place ≡ ring_of place
  pub seen_as : device_with place overrun task p ≡ d
  pub busy : IsSome d.task
  pub runs : overrun ≡ false
  pub work : IsAtWork task overrun p.task

module _ (place : CqPlace) (overrun : Bool) (task : Option Cqe) (p new : ProducerView) (d : DeviceView) (e : BusEntry) (answer : Step (Unit {0}) Published) (r : IsRunning place overrun task p d) (t : ProducerTurn p new e answer) where
  -- the turn with this answer
  abbrev Ends : Step (Unit {0}) Published → Type 0
  Ends end = DeviceTurn d (device_with place (overruns end) (task_after task end) new) e (answer_of end)

  ends : (end : Step (Unit {0}) Published) → answer ≡ end → Ends end
  ends end is =
      let busy : IsSome task = subst (λ (v : DeviceView). IsSome v.task) (sym r.seen_as) r.busy in
      let work = subst (λ (b : Bool). IsAtWork task b p.task) r.runs r.work in
      let seen : device_with place false task p ≡ d = subst (λ (b : Bool). device_with place b task p ≡ d) r.runs r.seen_as in
      subst Ends is (subst (λ (v : DeviceView). DeviceTurn v (device_with place (overruns answer) (task_after task answer) new) e (answer_of answer)) seen (published place task p new e answer r.same busy work t))

  pub goes_on : (answer ≡ More) ⊎ ((part : Unit {0}) × (answer ≡ Gave part)) → DeviceTurn d (device_with place overrun task new) e More
  goes_on is =
      let turn : DeviceTurn d (device_with place false task new) e More = elim is [ inl more ↦ ends More more | inr gave ↦ ends (Gave gave.0) gave.1 ] in
      subst (λ (b : Bool). DeviceTurn d (device_with place b task new) e More) (sym r.runs) turn

  pub ends_published : (end : Published) (index : ℕ) → answer ≡ Done end → end ≡ ring_answers.At index → DeviceTurn d (device_with place overrun None new) e (Done (answers.Published index))
  ends_published end index done is = subst (λ (b : Bool). DeviceTurn d (device_with place b None new) e (Done (answers.Published index))) (sym r.runs) (ends (Done (ring_answers.At index)) (done ∙ ap (λ (x : Published). Done x) is))

  pub ends_full : (end : Published) (index ci : ℕ) → answer ≡ Done end → end ≡ ring_answers.Full index ci → DeviceTurn d (device_with place true None new) e (Done (answers.Overrun index ci))
  ends_full end index ci done is = ends (Done (ring_answers.Full index ci)) (done ∙ ap (λ (x : Published). Done x) is)

-- the same in a queue that has overrun
pub ends_lost : (place : CqPlace) (overrun : Bool) (task : Option Cqe) (p : ProducerView) (d : DeviceView) (e : BusEntry) → device_with place overrun task p ≡ d → overrun ≡ true → IsSome d.task → IsLoad place.dbr e → DeviceTurn d (device_with place overrun None p) e (Done answers.Lost)
ends_lost place overrun task p d e seen_as stopped busy load =
    let at_work : IsSome task = subst (λ (v : DeviceView). IsSome v.task) (sym seen_as) busy in
    let seen : device_with place true task p ≡ d = subst (λ (b : Bool). device_with place b task p ≡ d) stopped seen_as in
    let turn = subst (λ (v : DeviceView). DeviceTurn v (device_with place true None p) e (Done answers.Lost)) seen (dropped place p e task at_work load) in
    subst (λ (b : Bool). DeviceTurn d (device_with place b None p) e (Done answers.Lost)) (sym stopped) turn

-- a ring's producer that is to publish these words
abbrev pub begun : ProducerView → List ℕ → ProducerView
begun ring words = record { place = ring.place; side = ring.side; task = Some (ring_side.sealed ring.place (next_index ring.side) words); seen = ring.seen }

-- a publication begins
pub begins : (completion : Cqe) (overrun : Bool) (ring new : ProducerView) (words : List ℕ) → overrun ≡ false → new ≡ begun ring words → length words ≡ 8 → slice_index words 7 % 2 ≡ 0 → IsCqe completion (entry_bytes words) → IsAtWork (Some completion) overrun new.task
begins completion overrun ring new words runs is long clear spelled =
    let owner : ℕ = owner_bit ring.place (next_index ring.side) in
    let work : IsAtWork (Some completion) false new.task = record { words = with_owner words owner; task_is = ap (λ (v : ProducerView). v.task) is; spelled = completion_apart completion words owner long clear (omega arith) spelled } in
    subst (λ (b : Bool). IsAtWork (Some completion) b new.task) (sym runs) work
