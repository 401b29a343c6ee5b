-- What lives stands in its list.
use Rattle.std.proofs.Common.{◌≡◌, ℕ, ap, ◌-◌, ◌<◌, ◌≤◌, arith, inl, inr, Bool, false, List, length, get_or, Option, Some, None, is_some, nat_le, cond, IsTrue, slice_index_or}
use Rattle.std.proofs.lemmas.Bool.{cases_lt, cases_Bool, leb-true}
use Rattle.std.proofs.lemmas.List.{get_or_past}

pub set_inside : (items : List Bool) (n : ℕ) → IsTrue (slice_index_or items n false) → n < length items
set_inside items n h = elim (cases_lt n (length items)) [
  | inl inside ↦ inside
  | inr past ↦ absurd (let gone = get_or_past items n false (omega arith) in cc)
]

pub some_inside : {X : Type 0} (items : List (Option X)) (n : ℕ) (x : X) → slice_index_or items n None ≡ Some x → n < length items
some_inside items n x h = elim (cases_lt n (length items)) [
  | inl inside ↦ inside
  | inr past ↦ let gone = get_or_past items n None (omega arith) in absurd (cc)
]

pub live_inside : {X : Type 0} (items : List (Option X)) (n : ℕ) → IsTrue (is_some (slice_index_or items n None)) → n < length items
live_inside items n h = elim (cases_lt n (length items)) [
  | inl inside ↦ inside
  | inr past ↦ absurd (let gone = ap is_some (get_or_past items n None (omega arith)) in cc)
]

pub pd_inside : (items : List Bool) (pd : ℕ) → IsTrue (cond (nat_le 1 pd) (slice_index_or items (pd - 1) false) false) → (1 ≤ pd) × (pd - 1 < length items)
pd_inside items pd h = elim (cases_Bool (nat_le 1 pd)) [
  | inl above ↦ (leb-true 1 pd above, set_inside items (pd - 1) (rw above at h))
  | inr below ↦ absurd (let none = rw below at h in cc)
]

pub qp_inside : {X : Type 0} (items : List (Option X)) (qp : ℕ) (x : X) → cond (nat_le 64 qp) (slice_index_or items (qp - 64) None) None ≡ Some x
    → (64 ≤ qp) × (qp - 64 < length items) × (get_or items (qp - 64) None ≡ Some x)
qp_inside items qp x h = elim (cases_Bool (nat_le 64 qp)) [
  | inl above ↦ let is = rw above at h in (leb-true 64 qp above, some_inside items (qp - 64) x is, is)
  | inr below ↦ absurd (let none = rw below at h in cc)
]
