-- What a legal history of a list says of its slots.
use Rattle.std.proofs.Common.{◌≡◌, ◌≢◌, ◌⊎◌, ℕ, zero, suc, ◌<◌, ◌≤◌, inl, inr, ap, sym, ◌∙◌, subst, arith, List, [], ◌∷◌, length, fold, length-drop}
use Rattle.std.proofs.lemmas.Bool.{cases_lt, cases_eq}
use Rattle.srq_list.specs.declared.place.SrqPlace.{SrqPlace}
use Rattle.srq_list.specs.Place.{size}
use Rattle.srq_list.specs.Queue.{SharedQueue, SrqEvent, empty_queue, slot_at, IsHeld, after_event, IsLegal}
use Rattle.srq_list.specs.Kept.{IsAhead, SharesSlots, KeepsSlots}
use Rattle.srq_list.proofs.Shape.{Shape, shape_step, empty_shape, held_low}

pub shape_after : (place : SrqPlace) (q : SharedQueue) (events : List SrqEvent) → Shape place q → IsLegal place q events → Shape place (fold after_event q events)
shape_after place q [] s legal = s
shape_after place q (e ∷ events) s legal = shape_after place (after_event q e) events (shape_step place q s e legal.0) legal.1

module _ (place : SrqPlace) (q : SharedQueue) (s : Shape place q) where
  -- the last place at which a slot stands in the chain
  record Last (slot : ℕ) : Type 0 where
    number : ℕ
    inside : number < length q.chain
    slot_is : slot_at q number ≡ slot
    kept : (k : ℕ) → number < k → k < length q.chain → slot_at q k ≢ slot

  -- where it stands at none from n on; it stands once before the number of slots
  sought : (slot n : ℕ) → n ≤ length q.chain → ((k : ℕ) → n ≤ k → k < length q.chain → slot_at q k ≢ slot) → slot < n → slot < size place → Last slot
  sought slot zero few none before low = absurd (omega (arith, before))
  sought slot (suc n) few none before low = elim (cases_eq (slot_at q n) slot) [
    | inl here ↦ record { number = n; inside = omega (arith, few); slot_is = here; kept = λ k above inside. none k (omega (arith, above)) inside }
    | inr other ↦
        let differ : slot ≢ n = λ same. other (ap (slot_at q) (sym same) ∙ s.all slot low) in
        sought slot n (omega (arith, few)) (λ k above inside. elim (cases_eq k n) [
          | inl same ↦ subst (λ j. slot_at q j ≢ slot) (sym same) other
          | inr apart ↦ none k (omega (arith, above, apart)) inside
        ]) (omega (arith, before, differ)) low
  ]

  each : (slot : ℕ) → slot < size place → IsAhead q slot ⊎ IsHeld q slot
  each slot low =
      let last = sought slot (length q.chain) (omega arith) (λ k above inside. absurd (omega (arith, above, inside))) (omega (arith, low, s.long)) low in
      elim (cases_lt last.number q.taken) [
        | inl taken ↦ inr (record { number = last.number; taken = taken; slot_is = last.slot_is; kept = λ k above inside. subst (λ x. slot_at q k ≢ x) (sym last.slot_is) (last.kept k above inside) })
        | inr ahead ↦ inl (record { number = last.number; taken = ahead; inside = last.inside; slot_is = last.slot_is })
      ]

  held_inside : (slot : ℕ) (h : IsHeld q slot) → h.number < length q.chain
  held_inside slot h = omega (arith, h.taken, s.taken, s.rung, s.room)

  pub shares_slots : SharesSlots place q
  shares_slots = record {
    each = each;
    ahead_once = s.apart;
    not_both = λ slot a h. h.kept a.number (omega (arith, a.taken, h.taken)) a.inside (a.slot_is ∙ sym h.slot_is);
    held_once = λ slot a b. elim (cases_lt a.number b.number) [
      | inl below ↦ absurd (a.kept b.number below (held_inside slot b) (b.slot_is ∙ sym a.slot_is))
      | inr above ↦ elim (cases_lt b.number a.number) [
        | inl below ↦ absurd (b.kept a.number below (held_inside slot a) (a.slot_is ∙ sym b.slot_is))
        | inr same ↦ omega (arith, above, same)
      ]
    ];
    within = λ slot h. elim h [ inl a ↦ subst (λ x. x < size place) a.slot_is (s.within a.number a.inside) | inr b ↦ held_low place q s slot b ];
    free = omega (arith, length-drop (length q.receives) q.chain, s.room, s.long);
    some_free = s.room;
  }

pub keeps_slots : (place : SrqPlace) → KeepsSlots place
keeps_slots place events legal =
    let q : SharedQueue = fold after_event (empty_queue place) events in
    shares_slots place q (shape_after place (empty_queue place) events (empty_shape place) legal)
