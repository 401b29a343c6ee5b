-- What holds of a queue's list alone: its counts stand in order, each receive lies at its slot of the chain, and from the taken ones on no slot stands there twice.
use Rattle.std.proofs.Common.{◌≡◌, ◌≢◌, ℕ, ◌+◌, ◌-◌, ◌<◌, ◌≤◌, inl, inr, ap, sym, ◌∙◌, subst, arith, suc, eqb, true, false, List, [], ◌∷◌, length, get_or, take, drop, length-append, length-drop}
use Rattle.std.specs.List.{range_with_len, list_any}
use Rattle.std.proofs.lemmas.List.{get_or_push, get_or_append_left, get_or_default, get_or-take, get_or-drop, length-take-le}
use Rattle.std.proofs.lemmas.List.FromFn.{length-range_with_len, get_or-range_with_len}
use Rattle.std.proofs.lemmas.Map.Keys.{IsDistinct-from_apart}
use Rattle.std.proofs.lemmas.Map.Steps.{length-le_from_distinct_below}
use Rattle.std.proofs.lemmas.Bool.{cases_lt, ne_eqb, eqb-true, or_cases}
use Rattle.srq_list.specs.declared.place.SrqPlace.{SrqPlace}
use Rattle.srq_list.specs.Place.{size, entry_words}
use Rattle.srq_list.specs.Queue.{Receive, SharedQueue, SrqEvent, Began, Full, Wrote, Rang, Found, Freed, Showed, NoneThere, Took, empty_queue, slot_at, IsKept, IsHeld, IsPending, MayWrite, MayHappen, after_event}
use Rattle.srq_list.proofs.Slots.{some_slots}

abbrev pub nothing : Receive
nothing = record { slot = 0; words = []; id = 0 }

-- the receive with n before it, of no words past the last
abbrev pub receive_of : SharedQueue → ℕ → Receive
receive_of q n = get_or q.receives n nothing

pub record Shape (place : SrqPlace) (q : SharedQueue) : Type 0 where
  pub taken : q.taken ≤ q.rung
  pub rung : q.rung ≤ length q.receives
  pub room : length q.receives < length q.chain
  pub long : size place ≤ length q.chain
  -- the chain begins with all slots
  pub all : (slot : ℕ) → slot < size place → slot_at q slot ≡ slot
  pub within : (n : ℕ) → n < length q.chain → slot_at q n < size place
  pub apart : (n k : ℕ) → q.taken ≤ n → n < k → k < length q.chain → slot_at q n ≢ slot_at q k
  pub placed : (n : ℕ) → n < length q.receives → (receive_of q n).slot ≡ slot_at q n
  pub whole : (n : ℕ) → n < length q.receives → length (receive_of q n).words ≡ entry_words place

-- numbers that stand in a list are as low as those at its places
below_any : (xs : List ℕ) (limit x : ℕ) → ((i : ℕ) → i < length xs → get_or xs i 0 < limit) → list_any (eqb x) xs ≡ true → x < limit
below_any [] limit x low h = absurd (cc)
below_any (y ∷ xs) limit x low h = elim (or_cases (eqb x y) (list_any (eqb x) xs) h) [
  | inl here ↦ omega (arith, eqb-true x y here, low 0 (omega arith))
  | inr later ↦ below_any xs limit x (λ i inside. low (suc i) (omega (arith, inside))) later
]

module _ (place : SrqPlace) (q : SharedQueue) (s : Shape place q) where
  -- a slot of the chain, from the taken ones on, was not freed since
  pub kept : (n : ℕ) → q.taken ≤ n → IsKept q n
  kept n low k above inside same = s.apart n k low above inside (sym same)

  -- a held slot is one of the slots
  pub held_low : (slot : ℕ) → IsHeld q slot → slot < size place
  held_low slot h = subst (λ x. x < size place) h.slot_is (s.within h.number (omega (arith, h.taken, s.taken, s.rung, s.room)))

  abbrev rest : List ℕ
  rest = drop q.taken q.chain

  rest_count : length rest ≡ length q.chain - q.taken
  rest_count = length-drop q.taken q.chain

  rest_at : (i d : ℕ) → i < length rest → get_or rest i d ≡ slot_at q (q.taken + i)
  rest_at i d inside = get_or-drop q.taken q.chain i d ∙ get_or_default q.chain (q.taken + i) d 0 (omega (arith, inside, rest_count))

  rest_apart : (i j d : ℕ) → i < j → j < length rest → eqb (get_or rest i d) (get_or rest j d) ≡ false
  rest_apart i j d low inside = ne_eqb (get_or rest i d) (get_or rest j d)
      (λ same. s.apart (q.taken + i) (q.taken + j) (omega arith) (omega (arith, low)) (omega (arith, inside, rest_count)) (sym (rest_at i d (omega (arith, low, inside))) ∙ (same ∙ rest_at j d inside)))

  rest_low : (i : ℕ) → i < length rest → get_or rest i 0 < size place
  rest_low i inside = subst (λ x. x < size place) (sym (rest_at i 0 inside)) (s.within (q.taken + i) (omega (arith, inside, rest_count)))

  -- no more of them than there are slots
  pub window : length q.chain ≤ q.taken + size place
  window =
      let most : length rest ≤ size place = length-le_from_distinct_below rest (size place) (IsDistinct-from_apart eqb rest rest_apart) (λ x h. below_any rest (size place) x rest_low h) in
      omega (arith, most, rest_count)

  pub pending_low : (pending : ℕ) → IsPending q pending → q.rung + pending ≤ length q.receives
  pending_low pending h = elim h [ inl all ↦ omega (arith, all) | inr none ↦ omega (arith, none, s.rung) ]

  -- some of the receives that were not rung are dropped
  pub shape_cut : (rung count : ℕ) → q.taken ≤ rung → rung ≤ count → count ≤ length q.receives → Shape place (record { chain = q.chain; receives = take count q.receives; rung = rung; taken = q.taken })
  shape_cut rung count taken low high =
      let long : length (take count q.receives) ≡ count = length-take-le count q.receives high in
      record {
        taken = taken;
        rung = omega (arith, low, long);
        room = omega (arith, high, long, s.room);
        long = s.long;
        all = s.all;
        within = s.within;
        apart = s.apart;
        placed = λ n inside. ap (λ (r : Receive). r.slot) (get_or-take count q.receives n nothing (omega (arith, inside, long))) ∙ s.placed n (omega (arith, inside, long, high));
        whole = λ n inside. ap (λ (r : Receive). length r.words) (get_or-take count q.receives n nothing (omega (arith, inside, long))) ∙ s.whole n (omega (arith, inside, long, high));
      }

  -- one receive more
  module _ (r : Receive) where
    abbrev pub wrote : SharedQueue
    wrote = after_event q (Wrote r)

    pub count_wrote : length wrote.receives ≡ length q.receives + 1
    count_wrote = omega (arith, length-append q.receives (r ∷ []))

    pub receive_before : (n : ℕ) → n < length q.receives → receive_of wrote n ≡ receive_of q n
    receive_before n inside = get_or_append_left q.receives (r ∷ []) nothing n inside

    pub receive_last : (n : ℕ) → n ≡ length q.receives → receive_of wrote n ≡ r
    receive_last n last = get_or_push q.receives r nothing n (sym last)

    pub shape_wrote : MayWrite place q r → Shape place wrote
    shape_wrote may = record {
      taken = s.taken;
      rung = omega (arith, s.rung, count_wrote);
      room = omega (arith, may.room, count_wrote);
      long = s.long;
      all = s.all;
      within = s.within;
      apart = s.apart;
      placed = λ n inside. elim (cases_lt n (length q.receives)) [
        | inl before ↦ ap (λ (x : Receive). x.slot) (receive_before n before) ∙ s.placed n before
        | inr past ↦ let last : n ≡ length q.receives = omega (arith, past, inside, count_wrote) in ap (λ (x : Receive). x.slot) (receive_last n last) ∙ (may.slot_is ∙ ap (slot_at q) (sym last))
      ];
      whole = λ n inside. elim (cases_lt n (length q.receives)) [
        | inl before ↦ ap (λ (x : Receive). length x.words) (receive_before n before) ∙ s.whole n before
        | inr past ↦ let last : n ≡ length q.receives = omega (arith, past, inside, count_wrote) in ap (λ (x : Receive). length x.words) (receive_last n last) ∙ may.whole
      ];
    }

  -- the next receive is taken
  pub shape_took : q.taken < q.rung → Shape place (record { chain = q.chain; receives = q.receives; rung = q.rung; taken = q.taken + 1 })
  shape_took rung = record {
    taken = omega (arith, rung);
    rung = s.rung;
    room = s.room;
    long = s.long;
    all = s.all;
    within = s.within;
    apart = λ n k low above inside. s.apart n k (omega (arith, low)) above inside;
    placed = s.placed;
    whole = s.whole;
  }

  -- a slot more at the chain's end
  module _ (slot : ℕ) where
    abbrev pub longer : SharedQueue
    longer = after_event q (Freed slot)

    pub count_longer : length longer.chain ≡ length q.chain + 1
    count_longer = omega (arith, length-append q.chain (slot ∷ []))

    pub slot_before : (n : ℕ) → n < length q.chain → slot_at longer n ≡ slot_at q n
    slot_before n inside = get_or_append_left q.chain (slot ∷ []) 0 n inside

    pub slot_last : (n : ℕ) → n ≡ length q.chain → slot_at longer n ≡ slot
    slot_last n last = get_or_push q.chain slot 0 n (sym last)

    pub kept_before : (n : ℕ) → n < length q.chain → IsKept longer n → IsKept q n
    kept_before n inside h k above low same = h k above (omega (arith, low, count_longer)) (slot_before k low ∙ (same ∙ sym (slot_before n inside)))

    pub shape_freed : IsHeld q slot → Shape place longer
    shape_freed h = record {
      taken = s.taken;
      rung = s.rung;
      room = omega (arith, s.room, count_longer);
      long = omega (arith, s.long, count_longer);
      all = λ x low. slot_before x (omega (arith, low, s.long)) ∙ s.all x low;
      within = λ n inside. elim (cases_lt n (length q.chain)) [
        | inl before ↦ subst (λ x. x < size place) (sym (slot_before n before)) (s.within n before)
        | inr past ↦ subst (λ x. x < size place) (sym (slot_last n (omega (arith, past, inside, count_longer)))) (held_low slot h)
      ];
      apart = λ n k low above inside same. elim (cases_lt k (length q.chain)) [
        | inl before ↦ s.apart n k low above before (sym (slot_before n (omega (arith, above, before))) ∙ (same ∙ slot_before k before))
        | inr past ↦
            let last : k ≡ length q.chain = omega (arith, past, inside, count_longer) in
            let within : n < length q.chain = omega (arith, above, last) in
            h.kept n (omega (arith, low, h.taken)) within (sym (slot_before n within) ∙ (same ∙ (slot_last k last ∙ sym h.slot_is)))
      ];
      placed = λ n inside. s.placed n inside ∙ sym (slot_before n (omega (arith, inside, s.room)));
      whole = s.whole;
    }

  pub shape_step : (e : SrqEvent) → MayHappen place q e → Shape place (after_event q e)
  shape_step (Began pending) may = shape_cut q.rung (q.rung + pending) s.taken (omega arith) (pending_low pending may.pending_is)
  shape_step (Full pending slot) may = shape_cut q.rung (q.rung + pending) s.taken (omega arith) (pending_low pending may.pending_is)
  shape_step (Wrote r) may = shape_wrote r may
  shape_step (Rang pending) may = shape_cut (q.rung + pending) (q.rung + pending) (omega (arith, s.taken)) (omega arith) (pending_low pending may)
  shape_step (Found slot id) may = s
  shape_step (Freed slot) may = shape_freed slot may
  shape_step (Showed posted) may = s
  shape_step (NoneThere taken) may = s
  shape_step (Took slot words) may = shape_took may.rung

pub empty_shape : (place : SrqPlace) → Shape place (empty_queue place)
empty_shape place =
    let count : length (range_with_len 0 (size place)) ≡ size place = length-range_with_len 0 (size place) in
    let at_n = λ (n : ℕ) (low : n < size place). let e : get_or (range_with_len 0 (size place)) n 0 ≡ n = get_or-range_with_len 0 (size place) n 0 low ∙ omega arith in e in
    record {
      taken = omega arith;
      rung = omega arith;
      room = omega (arith, count, some_slots place);
      long = omega (arith, count);
      all = at_n;
      within = λ n inside. omega (arith, at_n n (omega (arith, inside, count)), inside, count);
      apart = λ n k low above inside same. omega (arith, at_n n (omega (arith, above, inside, count)), at_n k (omega (arith, inside, count)), above, same);
      placed = λ n inside. absurd (omega (arith, inside));
      whole = λ n inside. absurd (omega (arith, inside));
    }
