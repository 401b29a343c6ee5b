-- One operation of the device's side keeps what ties words, sides and list, and what it says is a step of the list.
use Rattle.std.proofs.Common.{◌≡◌, ℕ, ◌+◌, ◌<◌, inl, inr, refl, sym, ◌∙◌, subst, arith, Bool, true, false, cond, eqb, List, [], ◌∷◌, ◌++◌, length, Some, None, length-append}
use Rattle.std.proofs.lemmas.Bool.{cases_lt, eqb-true}
use Rattle.std.proofs.lemmas.Option.{slice_get_within}
use Rattle.bus_core.specs.declared.operation.BusEntry.{BusEntry}
use Rattle.bus_core.specs.Operation.{stored}
use Rattle.bus_core.specs.Trace.{Memory, after_entry, Tells}
use Rattle.verbs_types.specs.declared.completion.EventRecord.{EventRecord}
use Rattle.cqe_format.specs.Bytes.{entry_bytes}
use Rattle.cqe_format.specs.Event.{IsEqe}
use Rattle.owner_ring.specs.Place.{size, IsPlace}
use Rattle.owner_ring.specs.Ring.{Ring, published}
use Rattle.owner_ring.specs.Ring as ring
use Rattle.owner_ring.specs.Producer.{Producer, Ready, Filling}
use Rattle.owner_ring.specs.Consumer.{Consumer}
use Rattle.owner_ring.proofs.Tied as ring_tied
use Rattle.owner_ring.proofs.Tied.{Tied_opened, entry_at}
use Rattle.owner_ring.proofs.ProducerStep.{producer_step, published_more, entry_before, entry_last}
use Rattle.eq_pair.specs.declared.place.EqPlace.{EqPlace}
use Rattle.eq_pair.specs.Place.{ring_of}
use Rattle.eq_pair.specs.Mark.{EqMark, Write, Look, Read, Take, Register, Foreign}
use Rattle.eq_pair.specs.Queue.{EventList, Written, after_event}
use Rattle.eq_pair.specs.Device.{EventWriter, MayWrite, after_write, writes}
use Rattle.eq_pair.specs.Host.{EventTaker, Waiting, Reading, Holding, consumer_of}
use Rattle.eq_pair.specs.Law.{HasRoom}
use Rattle.eq_pair.proofs.Lists.{found_more, found_before, found_last}
use Rattle.eq_pair.proofs.Tied.{Tied, Fits, TakerFits, AllSpelled, Goes, producer_at, next_given}

-- the first store opens an entry, for which there is room
opened : (place : EqPlace) (m : Memory) (c : Consumer) (entries : Ring) (i : ℕ) (words : List ℕ) → (words ≡ [] → i < entries.acked + size (ring_of place)) → ring_tied.Tied (ring_of place) m (producer_at i words) c entries → ring_tied.Tied (ring_of place) m (Filling i words) c entries
opened place m c entries i [] room t = let here = room refl in Tied_opened (ring_of place) m c entries i (omega (arith, t.producer)) t
opened place m c entries i (w ∷ words) room t = t

still_open : (i word : ℕ) (words : List ℕ) → Filling i (words ++ word ∷ []) ≡ producer_at i (words ++ word ∷ [])
still_open i word [] = refl
still_open i word (w ∷ words) = refl

TakerFits_more : (h : EventTaker) (q : EventList) (i : ℕ) (event : EventRecord) → TakerFits h q → TakerFits h (after_event q (Written i event))
TakerFits_more (Waiting j) q i event f = tt
TakerFits_more (Reading j last words) q i event f = tt
TakerFits_more (Holding j held) q i event f = (f.0, found_more q.written event held j f.1)

module _ (place : EqPlace) (m : Memory) (h : EventTaker) (q : EventList) (entries : Ring) (f : Fits entries h q) (event : EventRecord) (i word : ℕ) (words : List ℕ) where
  abbrev whole : List ℕ
  whole = words ++ word ∷ []

  abbrev more : Ring
  more = ring.after_event entries (ring.Published i whole)

  spelled_more : IsEqe event (entry_bytes whole) → AllSpelled (after_event q (Written i event)) more
  spelled_more spelled n x low h = elim (cases_lt n (length q.written)) [
    | inl before ↦
        let old : IsEqe x (entry_bytes (entry_at entries n)) = f.spelled n x low (found_before q.written event x n h before) in
        subst (λ (ws : List ℕ). IsEqe x (entry_bytes ws)) (sym (entry_before entries whole n low (omega (arith, f.count)))) old
    | inr past ↦
        let inside = slice_get_within (q.written ++ event ∷ []) n x h in
        let last : n ≡ length q.written = omega (arith, inside, past, length-append q.written (event ∷ [])) in
        subst (λ (ws : List ℕ). IsEqe x (entry_bytes ws)) (sym (entry_last entries whole n (last ∙ f.count))) (subst (λ (y : EventRecord). IsEqe y (entry_bytes whole)) (found_last q.written event x n h last) spelled)
  ]

  stores : (full : Bool) → (full ≡ true → IsEqe event (entry_bytes whole)) → ring_tied.Goes (ring_of place) m (cond full (Ready (i + 1)) (Filling i whole)) (consumer_of h) entries (cond full (Some (ring.Published i whole)) None) →
      Goes place m (cond full (record { index = i + 1; words = [] }) (record { index = i; words = whole })) h q (cond full (Some (Written i event)) None)
  stores true spelled g = (
    record { index_is = omega (arith, g.0, f.count); room = omega (arith, g.0, f.count, f.given) },
    record {
      entries = more;
      ring = g.1;
      fits = record {
        given = f.given;
        count = omega (arith, f.count, length-append q.written (event ∷ []), published_more entries whole);
        spelled = spelled_more (spelled refl);
        taker = TakerFits_more h q i event f.taker;
      };
    },
  )
  stores false spelled g = record { entries = entries; ring = subst (λ (p : Producer). ring_tied.Tied (ring_of place) m p (consumer_of h) entries) (still_open i word words) g; fits = f }

pub device_step : (place : EqPlace) (m : Memory) (d : EventWriter) (h : EventTaker) (q : EventList) (mark : EqMark) (e : BusEntry) → IsPlace (ring_of place) → Tied place m d h q → Tells m e → MayWrite place d mark e → HasRoom place d h →
    Goes place (after_entry m e) (after_write d mark e) h q (writes d mark)
device_step place m d h q (Write event) e ok t tells may room =
    let next = next_given place m d h q t in
    let begun = opened place m (consumer_of h) t.entries d.index d.words (λ none. let here = room none in omega (arith, next)) t.ring in
    stores place (after_entry m e) h q t.entries t.fits event d.index (stored e) d.words (eqb (length d.words) 7) (λ full. (may.whole (eqb-true (length d.words) 7 full)).spelled)
    (producer_step (ring_of place) m (Filling d.index d.words) (consumer_of h) t.entries e ok begun tells (may.store, λ seven. (may.whole seven).owned))
device_step place m d h q Look e ok t tells may room = absurd may
device_step place m d h q Read e ok t tells may room = absurd may
device_step place m d h q (Take event) e ok t tells may room = absurd may
device_step place m d h q Register e ok t tells may room = absurd may
device_step place m d h q Foreign e ok t tells may room = absurd may
