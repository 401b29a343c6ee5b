-- The law of receives: what each event of a legal history says of the events before it.
use Rattle.std.proofs.Common.{◌≡◌, ◌≢◌, ◌⊎◌, ℕ, ◌<◌, ◌≤◌, inl, inr, refl, ap, sym, ◌∙◌, subst, arith, List, [], ◌∷◌, ◌++◌, length, get_or, Some}
use Rattle.std.specs.Prelude.{slice_get}
use Rattle.std.specs.List.{Contains}
use Rattle.std.proofs.lemmas.Bool.{cases_lt, cases_eq}
use Rattle.std.proofs.lemmas.List.{get_or_append_left}
use Rattle.std.proofs.lemmas.List.Elements.{Contains-append_right}
use Rattle.std.proofs.lemmas.Option.{slice_get-get_or, get_or_from_slice_get}
use Rattle.srq_list.specs.declared.place.SrqPlace.{SrqPlace}
use Rattle.srq_list.specs.Queue.{Receive, SharedQueue, SrqEvent, Began, Full, Wrote, Rang, Found, Freed, Showed, NoneThere, Took, slot_at, IsHeld, MayTake, after_event, IsLegal}
use Rattle.srq_list.specs.Kept.{posts, posted, WasTaken, KeepsReceives}
use Rattle.srq_list.proofs.Slots.{some_slots}
use Rattle.srq_list.proofs.Shape.{Shape, nothing, receive_of, shape_step, count_longer, slot_before, slot_last}
use Rattle.srq_list.proofs.Kept.{Kept, from_start}

module _ (place : SrqPlace) (past : List SrqEvent) (q : SharedQueue) (k : Kept place past q) where
  -- a receive of the list that was rung is one that was posted
  was_posted : (n : ℕ) → n < q.rung → slice_get (posted past) n ≡ Some (receive_of q n)
  was_posted n low =
      let inside : n < length (posted past) = omega (arith, low, k.rung) in
      let same : receive_of q n ≡ get_or (posted past) n nothing = ap (λ rs. get_or rs n nothing) k.receives ∙ get_or_append_left (posted past) (posts past).written nothing n inside in
      slice_get-get_or (posted past) n nothing inside ∙ ap (λ r. Some r) (sym same)

  abbrev was_taken : (slot : ℕ) → IsHeld q slot → WasTaken past slot
  was_taken slot h =
      let t = k.each h.number h.taken in
      record {
        earlier = t.earlier;
        later = t.later;
        words = t.words;
        past_is = t.past_is ∙ ap (λ x. t.earlier ++ Took x t.words ∷ t.later) h.slot_is;
        kept = λ freed. t.freed (subst (λ x. Contains t.later (Freed x)) (sym h.slot_is) freed) h.kept;
      }

-- a receive that is taken lies at the slot that the chain has for it
take_slot : (place : SrqPlace) (q : SharedQueue) (slot : ℕ) (words : List ℕ) → Shape place q → MayTake q slot words → slot ≡ slot_at q q.taken
take_slot place q slot words s may =
    let same : receive_of q q.taken ≡ may.receive = get_or_from_slice_get q.receives q.taken may.receive nothing may.found in
    may.slot_is ∙ (ap (λ (r : Receive). r.slot) (sym same) ∙ s.placed q.taken (omega (arith, may.rung, s.rung)))

-- a slot that stands in the chain at no place from the taken ones on is freed before it is taken
module _ (place : SrqPlace) (slot : ℕ) where
  abbrev Avoids : SharedQueue → Type 0
  Avoids q = (n : ℕ) → q.taken ≤ n → n < length q.chain → slot_at q n ≢ slot

  goes_on : (q : SharedQueue) (e : SrqEvent) → Shape place q → Avoids q → (e ≡ Freed slot) ⊎ Avoids (after_event q e)
  goes_on q (Began pending) s avoids = inr avoids
  goes_on q (Full pending x) s avoids = inr avoids
  goes_on q (Wrote r) s avoids = inr avoids
  goes_on q (Rang pending) s avoids = inr avoids
  goes_on q (Found x id) s avoids = inr avoids
  goes_on q (Freed x) s avoids = elim (cases_eq x slot) [
    | inl same ↦ inl (ap (λ y. Freed y) same)
    | inr other ↦ inr (λ n low inside same. elim (cases_lt n (length q.chain)) [
      | inl before ↦ avoids n low before (sym (slot_before place q s x n before) ∙ same)
      | inr past ↦ other (sym (slot_last place q s x n (omega (arith, past, inside, count_longer place q s x))) ∙ same)
    ])
  ]
  goes_on q (Showed count) s avoids = inr avoids
  goes_on q (NoneThere taken) s avoids = inr avoids
  goes_on q (Took x words) s avoids = inr (λ n low inside. avoids n (omega (arith, low)) inside)

  freed_first : (events after : List SrqEvent) (words : List ℕ) (q : SharedQueue) → Shape place q → Avoids q → IsLegal place q (events ++ Took slot words ∷ after) → Contains events (Freed slot)
  freed_first [] after words q s avoids legal =
      let may = legal.0 in
      absurd (avoids q.taken (omega arith) (omega (arith, may.rung, s.rung, s.room)) (sym (take_slot place q slot words s may)))
  freed_first (e ∷ events) after words q s avoids legal = elim (goes_on q e s avoids) [
    | inl here ↦ (0, omega arith, here)
    | inr more ↦ Contains-append_right (e ∷ []) events (Freed slot) (freed_first events after words (after_event q e) (shape_step place q s e legal.0) more legal.1)
  ]

abbrev as_receive : ℕ → List ℕ → ℕ → Receive
as_receive slot words id = record { slot = slot; words = words; id = id }

-- a receive is its slot, its words and its id
parts : (r : Receive) (slot : ℕ) (words : List ℕ) (id : ℕ) → slot ≡ r.slot → words ≡ r.words → id ≡ r.id → r ≡ as_receive slot words id
parts r slot words id s w i = sym (ap (λ x. as_receive x words id) s ∙ (ap (λ ws. as_receive r.slot ws id) w ∙ ap (λ x. as_receive r.slot r.words x) i))

pub keeps_receives : (place : SrqPlace) → KeepsReceives place
keeps_receives place = record {
  took = λ before after slot words legal.
      let u = from_start place before after (Took slot words) legal in
      let q = u.queue in
      let same : receive_of q q.taken ≡ u.may.receive = get_or_from_slice_get q.receives q.taken u.may.receive nothing u.may.found in
      record {
        id = u.may.receive.id;
        next = ap (slice_get (posted before)) (sym u.kept.taken) ∙ (was_posted place before q u.kept q.taken u.may.rung ∙ ap (λ r. Some r) (same ∙ parts u.may.receive slot words u.may.receive.id u.may.slot_is u.may.words_are refl));
      };
  none = λ before after taken legal.
      let u = from_start place before after (NoneThere taken) legal in
      (u.may.1 ∙ u.kept.taken, sym u.kept.rung ∙ (sym u.may.0 ∙ u.kept.taken));
  showed = λ before after count legal.
      let u = from_start place before after (Showed count) legal in
      (u.may.1 ∙ u.kept.rung, omega (arith, u.may.0, u.may.1, u.kept.taken));
  full = λ before after pending slot legal.
      let u = from_start place before after (Full pending slot) legal in
      omega (arith, u.may.last, u.kept.rung, u.kept.freed, some_slots place);
  found = λ before after slot id legal.
      let u = from_start place before after (Found slot id) legal in
      let q = u.queue in
      let h = u.may.held in
      let t = u.kept.each h.number h.taken in
      let same : receive_of q h.number ≡ u.may.receive = get_or_from_slice_get q.receives h.number u.may.receive nothing u.may.found in
      let low : h.number < q.rung = omega (arith, h.taken, u.kept.shape.taken) in
      let slot_is : slot ≡ (receive_of q h.number).slot = sym h.slot_is ∙ sym (u.kept.shape.placed h.number (omega (arith, low, u.kept.shape.rung))) in
      record {
        was_taken = was_taken place before q u.kept slot h;
        receive = ap (slice_get (posted before)) t.count ∙ (was_posted place before q u.kept h.number low ∙ ap (λ r. Some r) (parts (receive_of q h.number) slot t.words id slot_is t.words_are (u.may.id_is ∙ ap (λ (r : Receive). r.id) (sym same))));
      };
  freed = λ before after slot legal.
      let u = from_start place before after (Freed slot) legal in
      was_taken place before u.queue u.kept slot u.may;
  once = λ before between after slot words words' legal.
      let u = from_start place before (between ++ Took slot words' ∷ after) (Took slot words) legal in
      let s = u.kept.shape in
      let here : slot ≡ slot_at u.queue u.queue.taken = take_slot place u.queue slot words s u.may in
      freed_first place slot between after words' (after_event u.queue (Took slot words)) (shape_step place u.queue s (Took slot words) u.may)
      (λ n low inside same. s.apart u.queue.taken n (omega arith) (omega (arith, low)) inside (sym here ∙ sym same)) u.rest;
}
