-- One operation of the freer keeps what ties words, users and list, and what it says is a step of the list.
use Rattle.std.proofs.Common.{◌≡◌, ◌≢◌, ℕ, ◌+◌, ◌-◌, ◌<◌, ◌≤◌, inl, inr, refl, ap, sym, ◌∙◌, subst, arith, length, Some, None}
use Rattle.std.proofs.lemmas.Bool.{cases_lt}
use Rattle.std.proofs.lemmas.Option.{slice_get-get_or}
use Rattle.bus_core.specs.declared.operation.BusEntry.{BusEntry}
use Rattle.bus_core.specs.Operation.{loaded}
use Rattle.bus_core.specs.Trace.{Memory, after_entry, Tells}
use Rattle.bus_core.proofs.Words.{elsewhere, load_keeps, load_tells, store_leaves}
use Rattle.srq_list.specs.declared.place.SrqPlace.{SrqPlace}
use Rattle.srq_list.specs.Place.{IsPlace, size, entry_words, next_at, entry_at, id_at, link_word, next_of}
use Rattle.srq_list.specs.Queue.{SharedQueue, slot_at, IsHeld, MayFind}
use Rattle.srq_list.specs.Mark.{SrqMark, Begin, Fill, Ring, Lookup, Link, Free, Take, Foreign}
use Rattle.srq_list.specs.Poster.{Poster}
use Rattle.srq_list.specs.Freer.{Freer, MayServe, after_serve, serve_says}
use Rattle.srq_list.specs.Device.{Taker}
use Rattle.srq_list.proofs.Slots.{next_is, next_below, entry_below, id_low, id_below, entry_not_next, nexts_differ}
use Rattle.srq_list.proofs.Shape.{nothing, receive_of, held_low, longer, count_longer, slot_before, slot_last, kept_before, shape_freed}
use Rattle.srq_list.proofs.Tied.{Tied, Tied_kept, Goes, Asks, LinkFits, Holds, Holds_kept, Stored_kept, PosterFits_kept, last_slot}
use Rattle.srq_list.proofs.Moved.{PosterFits_moved, TakerFits_moved}

module _ (place : SrqPlace) (start : ℕ) (m : Memory) (p : Poster) (f : Freer) (d : Taker) (q : SharedQueue) (ok : IsPlace place) (t : Tied place start m p f d q) where
  -- the id word of a held slot
  looked_up : (slot word : ℕ) → word ≡ m (id_at place slot) → IsHeld q slot → MayFind q slot word
  looked_up slot word is held =
      let inside : held.number < length q.receives = omega (arith, held.taken, t.shape.taken, t.shape.rung) in
      record {
        held = held;
        receive = receive_of q held.number;
        found = slice_get-get_or q.receives held.number nothing inside;
        id_is = is ∙ (ap (λ x. m (id_at place x)) (sym held.slot_is) ∙ (t.stored held.number inside held.kept).id);
      }

  -- the last slot of the chain stands in it once
  last_is : (n : ℕ) → n + 1 ≡ length q.chain → f.tail ≡ slot_at q n
  last_is n last = t.freer.tail ∙ ap (slot_at q) (omega (arith, last))

  last_low : f.tail < size place
  last_low = subst (λ x. x < size place) (sym t.freer.tail) (t.shape.within (length q.chain - 1) (omega (arith, t.shape.room)))

  module _ (m' : Memory) where
    -- the index of a slot is stored at the last one
    linked : (slot : ℕ) → m' (next_at place f.tail) ≡ link_word slot → ((a : ℕ) → next_at place f.tail ≢ a → m' a ≡ m a) → Tied place start m' p (record { tail = f.tail; linked = Some slot }) d q
    linked slot here other =
        let entry = λ (x k : ℕ) (low : k < entry_words place). other (entry_at place x k) (λ e. entry_not_next place ok x f.tail k low (sym e)) in
        let above = λ (a : ℕ) (high : place.ids ≤ a). other a (λ e. omega (arith, e, high, next_below place ok f.tail)) in
        record {
          shape = t.shape;
          tail = above place.tail (omega (arith, ok.ids_next, ok.tail_last)) ∙ t.tail;
          recorded = above place.dbr (omega (arith, ok.ids_next)) ∙ t.recorded;
          linked = λ n low inside.
              let differ : slot_at q n ≢ f.tail = λ same. t.shape.apart n (length q.chain - 1) low (omega (arith, inside)) (omega (arith, inside)) (same ∙ t.freer.tail) in
              ap (next_of place) (other (next_at place (slot_at q n)) (λ e. nexts_differ place ok (slot_at q n) f.tail (t.shape.within n (omega (arith, inside))) last_low differ (sym e))) ∙ t.linked n low inside;
          stored = Stored_kept place m m' q entry (λ x. above (id_at place x) (id_low place ok x)) t.stored;
          poster = PosterFits_kept place m m' q p entry t.poster;
          freer = record { tail = t.freer.tail; link = here };
          taker = t.taker;
        }

    -- and it becomes the last one
    freed : (slot : ℕ) → f.linked ≡ Some slot → IsHeld q slot → m' place.tail ≡ slot → ((a : ℕ) → place.tail ≢ a → m' a ≡ m a) → Tied place start m' p (record { tail = slot; linked = None }) d (longer place q t.shape slot)
    freed slot linked_is held here other =
        let s = t.shape in
        let after : SharedQueue = longer place q s slot in
        let count = count_longer place q s slot in
        let low = λ (a : ℕ) (below : a < place.tail). other a (λ e. omega (arith, e, below)) in
        let next = λ (x : ℕ). low (next_at place x) (omega (arith, next_below place ok x, ok.ids_next, ok.tail_last)) in
        let entry = λ (x k : ℕ) (few : k < entry_words place). low (entry_at place x k) (omega (arith, entry_below place ok x k few, ok.ids_next, ok.tail_last)) in
        let id = λ (x : ℕ). low (id_at place x) (omega (arith, id_below place ok x, ok.tail_last)) in
        let link : m (next_at place f.tail) ≡ link_word slot = subst (LinkFits place m f.tail) linked_is t.freer.link in
        let last : slot ≡ last_slot after = sym (slot_last place q s slot (length after.chain - 1) (omega (arith, count))) in
        record {
          shape = shape_freed place q s slot held;
          tail = here ∙ last;
          recorded = low place.dbr ok.tail_last ∙ t.recorded;
          linked = λ n above inside.
              let within : n < length q.chain = omega (arith, inside, count) in
              let word : m' (next_at place (slot_at after n)) ≡ m (next_at place (slot_at q n)) = next (slot_at after n) ∙ ap (λ x. m (next_at place x)) (slot_before place q s slot n within) in
              elim (cases_lt (n + 1) (length q.chain)) [
                | inl before ↦ ap (next_of place) word ∙ (t.linked n above before ∙ sym (slot_before place q s slot (n + 1) before))
                | inr past ↦
                    let end : n + 1 ≡ length q.chain = omega (arith, past, within) in
                    ap (next_of place) (word ∙ (ap (λ x. m (next_at place x)) (sym (last_is n end)) ∙ link)) ∙ (next_is place slot ok (held_low place q s slot held) ∙ sym (slot_last place q s slot (n + 1) end))
              ];
          stored = λ n inside kept.
              let within : n < length q.chain = omega (arith, inside, s.room) in
              subst (λ x. Holds place m' x (receive_of q n)) (sym (slot_before place q s slot n within))
              (Holds_kept place m m' (slot_at q n) (receive_of q n) (entry (slot_at q n)) (id (slot_at q n)) (t.stored n inside (kept_before place q s slot n within kept)));
          poster = PosterFits_moved place m' q after s refl refl (omega (arith, count)) (slot_before place q s slot) p (PosterFits_kept place m m' q p entry t.poster);
          freer = record { tail = last; link = tt };
          taker = TakerFits_moved place q after s refl (omega arith) (slot_before place q s slot) (λ n rung. refl) d t.taker;
        }

pub freer_step : (place : SrqPlace) (start : ℕ) (m : Memory) (p : Poster) (f : Freer) (d : Taker) (q : SharedQueue) (mark : SrqMark) (e : BusEntry) → IsPlace place → Tied place start m p f d q → Tells m e → MayServe place f mark e → Asks q (serve_says mark e) →
    Goes place start (after_entry m e) p (after_serve f mark) d q (serve_says mark e)
freer_step place start m p f d q (Lookup slot) e ok t tells may ask =
    let m' : Memory = after_entry m e in
    let same : (a : ℕ) → m' a ≡ m a = λ a. load_keeps m e a may.op in
    let t' = Tied_kept place start m m' p f d q ok (λ a h. same a) t in
    (looked_up place start m' p f d q ok t' slot (loaded e) (load_tells m e (id_at place slot) tells may.op may.at_address ∙ sym (same (id_at place slot))) ask, t')
freer_step place start m p f d q (Link slot) e ok t tells may ask =
    linked place start m p f d q ok t (after_entry m e) slot (store_leaves m e (next_at place f.tail) (link_word slot) may.op may.at_address) (λ a ne. elsewhere m e a (λ same. ne (sym may.at_address ∙ same)))
freer_step place start m p f d q (Free slot) e ok t tells may ask =
    (ask, freed place start m p f d q ok t (after_entry m e) slot may.linked ask (store_leaves m e place.tail slot may.store.op may.store.at_address) (λ a ne. elsewhere m e a (λ same. ne (sym may.store.at_address ∙ same))))
freer_step place start m p f d q (Begin pending slot) e ok t tells may ask = absurd may
freer_step place start m p f d q Fill e ok t tells may ask = absurd may
freer_step place start m p f d q (Ring pending slot) e ok t tells may ask = absurd may
freer_step place start m p f d q Take e ok t tells may ask = absurd may
freer_step place start m p f d q Foreign e ok t tells may ask = absurd may
