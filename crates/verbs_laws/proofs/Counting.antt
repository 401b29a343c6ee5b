-- Sums over queue pairs, and over what the threads owe.
use Rattle.std.proofs.Common.{◌≡◌, ℕ, zero, suc, ◌+◌, ◌<◌, ◌≤◌, ◌==◌, Bool, true, false, if◌then◌else◌, List, [], ◌++◌, length, refl, ◌∙◌, ap, subst, arith, slice_index_or, slice_set}
use Rattle.std.specs.List.{sum_by}
use Rattle.std.proofs.lemmas.List.Sums.{sum_by-append, sum_by-cons, sum_by-set}
use Rattle.verbs_types.specs.declared.state.QueuePair.{QueuePair}
use Rattle.verbs_rules.specs.Answered.{Due}
use Rattle.verbs_rules.specs.Proper.{over_dues, Owes}
use Rattle.verbs_rules.specs.Within.{into}

if_mono : (b : Bool) (m n : ℕ) → m ≤ n → (if b then m else 0) ≤ (if b then n else 0)
if_mono true m n le = le
if_mono false m n le = omega arith

pub into_mono : (pairs : ℕ → QueuePair) (f g : ℕ → ℕ) (cq qp n : ℕ) → ((i : ℕ) → f i ≤ g i) → into pairs f cq qp n ≤ into pairs g cq qp n
into_mono pairs f g cq qp zero le = omega arith
into_mono pairs f g cq qp (suc n) le = omega (arith, if_mono ((pairs qp).send_cq == cq) (f qp) (g qp) (le qp), into_mono pairs f g cq (qp + 1) n le)

if_more : (b : Bool) (m n : ℕ) → m + 1 ≤ n → (if b then m else 0) + (if b then 1 else 0) ≤ (if b then n else 0)
if_more true m n le = le
if_more false m n le = omega arith

-- 1 where the queue pair completes into the queue
abbrev pub one_if : (ℕ → QueuePair) → ℕ → ℕ → ℕ
one_if pairs cq qp = if (pairs qp).send_cq == cq then 1 else 0

-- one queue pair's count has grown
pub into_more : (pairs : ℕ → QueuePair) (f g : ℕ → ℕ) (cq qp n k : ℕ) → ((i : ℕ) → f i ≤ g i) → k < n → f (qp + k) + 1 ≤ g (qp + k) → into pairs f cq qp n + one_if pairs cq (qp + k) ≤ into pairs g cq qp n
into_more pairs f g cq qp zero k le low more = absurd (omega (arith, low))
into_more pairs f g cq qp (suc n) zero le low more =
    let here : qp + 0 ≡ qp = omega arith in
    let one : one_if pairs cq (qp + 0) ≡ one_if pairs cq qp = ap (one_if pairs cq) here in
    let grows : f qp + 1 ≤ g qp = subst (λ i. f i + 1 ≤ g i) here more in
    omega (arith, one, if_more ((pairs qp).send_cq == cq) (f qp) (g qp) grows, into_mono pairs f g cq (qp + 1) n le)
into_more pairs f g cq qp (suc n) (suc k) le low more =
    let there : qp + suc k ≡ qp + 1 + k = omega arith in
    let one : one_if pairs cq (qp + suc k) ≡ one_if pairs cq (qp + 1 + k) = ap (one_if pairs cq) there in
    let grows : f (qp + 1 + k) + 1 ≤ g (qp + 1 + k) = subst (λ i. f i + 1 ≤ g i) there more in
    omega (arith, one, if_mono ((pairs qp).send_cq == cq) (f qp) (g qp) (le qp), into_more pairs f g cq (qp + 1) n k le (omega (arith, low)) grows)

-- sums over what the threads owe, as one of them owes something else
over_dues-set : (count : Due → ℕ) (dues : List (List Due)) (t : ℕ) (ds : List Due) → t < length dues → over_dues count (slice_set dues t ds) + sum_by count (slice_index_or dues t []) ≡ over_dues count dues + sum_by count ds
over_dues-set count dues t ds low = sum_by-set (λ (xs : List Due). sum_by count xs) dues t ds [] low

-- the sum over what all owe, as one thread owes something else
pub over_after : (count : Due → ℕ) (dues : List (List Due)) (t : ℕ) (due : Due) (rest left : List Due) → Owes dues t due rest → over_dues count (slice_set dues t (left ++ rest)) + count due ≡ over_dues count dues + sum_by count left
over_after count dues t due rest left o =
    let was : sum_by count (slice_index_or dues t []) ≡ count due + sum_by count rest = ap (sum_by count) o.is ∙ sum_by-cons count due rest in
    omega (arith, was, over_dues-set count dues t (left ++ rest) o.low, sum_by-append count left rest)

-- what a thread owes next is among what all owe
pub over_due : (count : Due → ℕ) (dues : List (List Due)) (t : ℕ) (due : Due) (rest : List Due) → Owes dues t due rest → count due ≤ over_dues count dues
over_due count dues t due rest o =
    let none : sum_by count [] ≡ 0 = refl in
    omega (arith, over_after count dues t due rest [] o, none)
