-- Declared objects are small.
use Rattle.std.proofs.Common.{◌≡◌, ℕ, ◌+◌, ◌*◌, ◌^◌, ◌≤◌, Bool, true, IsTrue, false, List, [], ◌∷◌, length, All, get_or, nat_le, cond, refl, leb-true, arith, inl, inr, ◌⊎◌}
use Rattle.std.specs.List.{sum_by}
use Rattle.std.proofs.Math.Pow.{pow_mono}
use Rattle.std.proofs.lemmas.Bool.{and_parts}
use Rattle.std.proofs.lemmas.List.Elements.{All-head, All-tail}
use Rattle.std.proofs.lemmas.List.Sums.{AllPass-from_list_all, sum_by-append}
use Rattle.verbs_types.specs.Lines.{is_declared, is_eq_line, is_cq_line, is_qp_line}
use Rattle.verbs_types.specs.declared.declaration.EqLine.{EqLine}
use Rattle.verbs_types.specs.declared.declaration.CqLine.{CqLine}
use Rattle.verbs_types.specs.declared.declaration.QpLine.{QpLine}
use Rattle.verbs_types.specs.declared.declaration.Lines.{Lines}
use Rattle.actor_map.specs.Limits.{IsEqSize, IsCqSize, IsQpSize}
use Rattle.actor_map.specs.Sizes.{cq_words, eq_words, qp_words, stride}

-- the most words of one object
abbrev most : ℕ
most = 65540

sum_small : {X : Type 0} (f : X → ℕ) (xs : List X) → All (λ x. f x ≤ most) xs → sum_by f xs ≤ 65540 * length xs
sum_small f [] small = omega arith
sum_small f (x ∷ xs) small =
    let first : f x ≤ 65540 = All-head (λ x. f x ≤ most) x xs small in
    let rest : sum_by f xs ≤ 65540 * length xs = sum_small f xs (All-tail (λ x. f x ≤ most) x xs small) in
    let zero_first : sum_by f (x ∷ []) ≡ f x = omega arith in
    omega (arith, first, rest, zero_first, sum_by-append f (x ∷ []) xs)

eq_small : (l : EqLine) → IsEqSize l → eq_words l ≤ most
eq_small l h = let places : 2 ^ l.log ≤ 2 ^ 10 = pow_mono h in omega (arith, places)

cq_small : (l : CqLine) → IsCqSize l → cq_words l ≤ most
cq_small l h = let places : 2 ^ l.ceiling ≤ 2 ^ 12 = pow_mono h in omega (arith, places)

abbrev IsStride : ℕ → Type 0
IsStride n = (n ≡ 2) ⊎ (n ≡ 4) ⊎ (n ≡ 8) ⊎ (n ≡ 16)

stride_is : (s : ℕ) → IsStride (stride s)
stride_is s = by (nat_le s 1) (nat_le s 2) (nat_le s 4)
  where
    by : (a b c : Bool) → IsStride (cond a 2 (cond b 4 (cond c 8 16)))
    by true b c = inl refl
    by false true c = inr (inl refl)
    by false false true = inr (inr (inl refl))
    by false false false = inr (inr (inr refl))

receives_small : (s n : ℕ) → n ≤ 256 → (stride s + 1) * n ≤ 4352
receives_small s n h = elim (stride_is s) [
  | inl a ↦ rw a (omega (arith, h))
  | inr b ↦ elim b [ inl c ↦ rw c (omega (arith, h)) | inr d ↦ elim d [ inl e ↦ rw e (omega (arith, h)) | inr f ↦ rw f (omega (arith, h)) ] ]
]

qp_small : (l : QpLine) → IsQpSize l → qp_words l ≤ most
qp_small l h =
    let sends : 2 ^ l.send_log ≤ 2 ^ 8 = pow_mono h.0 in
    let receives : 2 ^ l.recv_log ≤ 2 ^ 8 = pow_mono h.1 in
    let small : (stride l.segments + 1) * 2 ^ l.recv_log ≤ 4352 = receives_small l.segments (2 ^ l.recv_log) (omega (arith, receives)) in
    omega (arith, sends, small)

-- the limits of declared objects
pub record Limits (d : Lines) : Type 0 where
  pub few_eqs : length d.eqs ≤ 8
  pub few_cqs : length d.cqs ≤ 32
  pub few_qps : length d.qps ≤ 64
  pub eqs : All IsEqSize d.eqs
  pub cqs : All IsCqSize d.cqs
  pub qps : All IsQpSize d.qps

eq_limit : (l : EqLine) → IsTrue (is_eq_line l) → IsEqSize l
eq_limit l h = leb-true l.log 10 (and_parts _ _ h).1

cq_limit : (d : Lines) (l : CqLine) → IsTrue (is_cq_line d l) → IsCqSize l
cq_limit d l h = leb-true l.ceiling 12 (and_parts _ _ (and_parts _ _ (and_parts _ _ (and_parts _ _ h).0).0).0).1

qp_limit : (d : Lines) (l : QpLine) → IsTrue (is_qp_line d l) → IsQpSize l
qp_limit d l h =
    let segments = (and_parts _ _ (and_parts _ _ h).0).0 in
    let sends = and_parts _ _ segments in
    (leb-true l.send_log 8 (and_parts _ _ sends.0).1, leb-true l.recv_log 8 sends.1)

pub limits_of : (d : Lines) → IsTrue (is_declared d) → Limits d
limits_of d h =
    let connects = and_parts _ _ h in
    let qps = and_parts _ _ connects.0 in
    let cqs = and_parts _ _ qps.0 in
    let eqs = and_parts _ _ cqs.0 in
    let few = and_parts _ _ (and_parts _ _ eqs.0).0 in
    let few_cqs = and_parts _ _ few.0 in
    let few_pds = and_parts _ _ few_cqs.0 in
    record {
      few_eqs = leb-true (length d.eqs) 8 few_pds.0;
      few_cqs = leb-true (length d.cqs) 32 few_cqs.1;
      few_qps = leb-true (length d.qps) 64 few.1;
      eqs = λ k l below. eq_limit (get_or d.eqs k l) (AllPass-from_list_all is_eq_line d.eqs eqs.1 k l below);
      cqs = λ k l below. cq_limit d (get_or d.cqs k l) (AllPass-from_list_all (is_cq_line d) d.cqs cqs.1 k l below);
      qps = λ k l below. qp_limit d (get_or d.qps k l) (AllPass-from_list_all (is_qp_line d) d.qps qps.1 k l below);
    }

pub eqs_small : (d : Lines) → Limits d → sum_by eq_words d.eqs ≤ 524320
eqs_small d l = omega (arith, l.few_eqs, sum_small eq_words d.eqs (λ k e below. eq_small (get_or d.eqs k e) (l.eqs k e below)))

pub cqs_small : (d : Lines) → Limits d → sum_by cq_words d.cqs ≤ 2097280
cqs_small d l = omega (arith, l.few_cqs, sum_small cq_words d.cqs (λ k e below. cq_small (get_or d.cqs k e) (l.cqs k e below)))

pub qps_small : (d : Lines) → Limits d → sum_by qp_words d.qps ≤ 4194560
qps_small d l = omega (arith, l.few_qps, sum_small qp_words d.qps (λ k e below. qp_small (get_or d.qps k e) (l.qps k e below)))
