-- One operation of the retirer keeps what ties words, users and list, and what it says is a step of the list.
use Rattle.std.proofs.Common.{◌≡◌, ◌≢◌, ◌⊎◌, ℕ, ◌+◌, ◌%◌, ◌<◌, ◌≤◌, inl, inr, refl, ap, sym, ◌∙◌, subst, arith, Bool, true, false, cond, [], length, Option, Some, None}
use Rattle.std.proofs.lemmas.Option.{slice_get-get_or}
use Rattle.bus_core.specs.declared.operation.BusEntry.{BusEntry}
use Rattle.bus_core.specs.declared.operation.BusOp.TheVariants.{Load}
use Rattle.bus_core.specs.Operation.{IsLoad, loaded}
use Rattle.bus_core.specs.Trace.{Memory, after_entry, Tells}
use Rattle.bus_core.proofs.Words.{elsewhere, load_keeps, load_tells, store_leaves}
use Rattle.counted_ring.specs.declared.place.WqPlace.{WqPlace}
use Rattle.counted_ring.specs.Place.{IsPlace, is_send, id_at, head_at}
use Rattle.counted_ring.specs.Queue.{Queue, WqEvent, IsTaken, IsNamed, IsFound, index_of, MayHappen, after_event}
use Rattle.counted_ring.specs.Queue as queue
use Rattle.counted_ring.specs.Mark.{WqMark, Post, Ring, Lookup, Count, Retire, Look, Record, Read, Foreign}
use Rattle.counted_ring.specs.Poster.{Poster}
use Rattle.counted_ring.specs.Retirer.{Asked, Retirer, MayCountFor, end_after, count_says_for, after_retire}
use Rattle.counted_ring.specs.RetirerView.{MayServe, after_serve, served}
use Rattle.counted_ring.specs.Device.{WqReader}
use Rattle.counted_ring.proofs.Slots.{low_bits}
use Rattle.counted_ring.proofs.Requests.{request_of}
use Rattle.counted_ring.proofs.Orders.{order_retired}
use Rattle.counted_ring.proofs.Tied.{Tied, Tied_kept, Tied_retirer, Goes, Asks, AskedFits, SameEntries, entries_kept, Stored_kept, PosterFits_kept}
use Rattle.counted_ring.proofs.Moved.{PosterFits_moved, DeviceFits_moved}

module _ (place : WqPlace) (m : Memory) (p : Poster) (r : Retirer) (d : WqReader) (q : Queue) (ok : IsPlace place) (t : Tied place m p r d q) where
  -- a request that was taken
  posted : (counter n : ℕ) → IsTaken q counter n → n < length q.requests
  posted counter n h = omega (arith, h.taken, t.shape.order.taken, t.shape.order.rung)

  -- the id word of a counter
  id_of : (counter n : ℕ) → IsTaken q counter n → m (id_at place counter) ≡ (request_of q n).id
  id_of counter n h =
      let block : counter % place.blocks ≡ index_of q n % place.blocks = ap (λ c. c % place.blocks) h.counter_is ∙ low_bits place (index_of q n) ok in
      ap (λ b. m (place.ids + b)) block ∙ (t.stored n h.retired (posted counter n h)).id

  abbrev named : (counter n id : ℕ) → IsTaken q counter n → id ≡ (request_of q n).id → IsNamed q counter id
  named counter n id h same = record { number = n; counted = h; request = request_of q n; found = slice_get-get_or q.requests n (record { index = 0; words = []; id = 0 }) (posted counter n h); id_is = same }

  from_low : (from : ℕ) → (from ≡ r.found) ⊎ (from ≡ r.tail) → from ≤ q.taken
  from_low from h = elim h [ inl found ↦ omega (arith, found, t.retirer.found) | inr tail ↦ omega (arith, tail, t.retirer.tail, t.shape.order.retired) ]

  looked_up : (send : Bool) (counter from word : ℕ) → is_send place ≡ send → (from ≡ r.found) ⊎ (from ≡ r.tail) → word ≡ m (id_at place counter)
      → Asks place q (cond send (Some (queue.Named counter word)) (Some (queue.Found counter word (from + 1))))
      → Goes place m p (cond send (record { tail = r.tail; found = from; asked = Some (record { counter = counter; id = word }) }) (record { tail = r.tail; found = from + 1; asked = None })) d q
      (cond send (Some (queue.Named counter word)) (Some (queue.Found counter word (from + 1))))
  looked_up true counter from word send follows is ask =
      let same : word ≡ (request_of q ask.0).id = is ∙ id_of counter ask.0 ask.1 in (
        named counter ask.0 word ask.1 same,
        Tied_retirer place m p r (record { tail = r.tail; found = from; asked = Some (record { counter = counter; id = word }) }) d q (record {
          tail = t.retirer.tail;
          found = from_low from follows;
          asked = record { send = send; number = ask.0; retired = ask.1.retired; taken = ask.1.taken; counter_is = ask.1.counter_is; id_is = same };
        }) t,
      )
  looked_up false counter from word receive follows is ask =
      let taken : IsTaken q counter from = subst (IsTaken q counter) (omega arith) (ask receive).1 in (
        record { named = named counter from word taken (is ∙ id_of counter from taken); end_is = refl },
        Tied_retirer place m p r (record { tail = r.tail; found = from + 1; asked = None }) d q (record { tail = t.retirer.tail; found = omega (arith, taken.taken); asked = tt }) t,
      )

  counted : (asked : Option Asked) (e : BusEntry) → AskedFits place q asked → MayCountFor place asked e → ((a : ℕ) → IsLoad a e → loaded e ≡ m a) →
      Goes place m p (record { tail = r.tail; found = end_after e; asked = None }) d q (count_says_for asked e)
  counted None e fits may tells = absurd may
  counted (Some a) e knows may tells =
      let taken : IsTaken q a.counter knows.number = record { retired = knows.retired; taken = knows.taken; counter_is = knows.counter_is } in
      let inside = posted a.counter knows.number taken in
      let block : a.counter % place.blocks ≡ index_of q knows.number % place.blocks = ap (λ c. c % place.blocks) knows.counter_is ∙ low_bits place (index_of q knows.number) ok in
      let head : loaded e ≡ knows.number = tells (head_at place a.counter) may ∙ (ap (λ b. m (place.heads + b)) block ∙ (t.stored knows.number knows.retired inside).head knows.send) in
      let end : end_after e ≡ knows.number + 1 = omega (arith, head, inside, t.shape.few) in (
        record { named = named a.counter knows.number a.id taken knows.id_is; end_is = end },
        Tied_retirer place m p r (record { tail = r.tail; found = end_after e; asked = None }) d q (record { tail = t.retirer.tail; found = omega (arith, end, knows.taken); asked = tt }) t,
      )

  module _ (m' : Memory) (end : ℕ) (here : m' place.tail ≡ end) (other : (a : ℕ) → place.tail ≢ a → m' a ≡ m a) (later : r.tail < end) (found : end ≤ r.found) where
    same : SameEntries place m m'
    same = entries_kept place m m' ok (λ a low. other a (λ e. omega (arith, low, e)))

    retired : Goes place m' p (after_retire r end) d q (Some (queue.Retired end))
    retired =
        let low : q.retired < end = omega (arith, later, t.retirer.tail) in
        let high : end ≤ q.taken = omega (arith, found, t.retirer.found) in
        let s = t.shape in
        let after : Queue = after_event place q (queue.Retired end) in (
          (low, high),
          record {
            shape = record { order = order_retired place q s.order end low high; few = s.few; low = s.low; whole = s.whole };
            tail = here;
            recorded = other place.dbr (λ same. omega (arith, same, ok.record_next)) ∙ t.recorded;
            stored = λ n above below. Stored_kept place m m' same q t.stored n (omega (arith, low, above)) below;
            poster = PosterFits_moved place m' q after refl (omega (arith, low)) refl p (PosterFits_kept place m m' same q p t.poster);
            retirer = record { tail = refl; found = t.retirer.found; asked = tt };
            device = DeviceFits_moved q after refl (omega arith) (λ n h. refl) (λ n h. refl) d t.device;
          },
        )

count_loads : (place : WqPlace) (asked : Option Asked) (e : BusEntry) → MayCountFor place asked e → e.op ≡ Load
count_loads place None e may = absurd may
count_loads place (Some a) e may = may.op

pub retirer_step : (place : WqPlace) (m : Memory) (p : Poster) (r : Retirer) (d : WqReader) (q : Queue) (mark : WqMark) (e : BusEntry) → IsPlace place → Tied place m p r d q → Tells m e → MayServe place r mark e → Asks place q (served place r mark e) →
    Goes place (after_entry m e) p (after_serve place r mark e) d q (served place r mark e)
retirer_step place m p r d q (Lookup counter from) e ok t tells may ask =
    let m' : Memory = after_entry m e in
    let same : (a : ℕ) → m' a ≡ m a = λ a. load_keeps m e a may.load.op in
    looked_up place m' p r d q ok (Tied_kept place m m' p r d q ok (λ a h. same a) t) (is_send place) counter from (loaded e) refl may.follows
    (load_tells m e (id_at place counter) tells may.load.op may.load.at_address ∙ sym (same (id_at place counter))) ask
retirer_step place m p r d q Count e ok t tells may ask =
    let m' : Memory = after_entry m e in
    let same : (a : ℕ) → m' a ≡ m a = λ a. load_keeps m e a (count_loads place r.asked e may) in
    counted place m' p r d q ok (Tied_kept place m m' p r d q ok (λ a h. same a) t) r.asked e t.retirer.asked may (λ a load. load_tells m e a tells load.op load.at_address ∙ sym (same a))
retirer_step place m p r d q (Retire end) e ok t tells may ask =
    let other : (a : ℕ) → place.tail ≢ a → after_entry m e a ≡ m a = λ a ne. elsewhere m e a (λ same. ne (sym may.store.at_address ∙ same)) in
    retired place m p r d q ok t (after_entry m e) end (store_leaves m e place.tail end may.store.op may.store.at_address) other may.later may.found
retirer_step place m p r d q Post e ok t tells may ask = absurd may
retirer_step place m p r d q Ring e ok t tells may ask = absurd may
retirer_step place m p r d q Look e ok t tells may ask = absurd may
retirer_step place m p r d q (Record passes) e ok t tells may ask = absurd may
retirer_step place m p r d q Read e ok t tells may ask = absurd may
retirer_step place m p r d q Foreign e ok t tells may ask = absurd may
