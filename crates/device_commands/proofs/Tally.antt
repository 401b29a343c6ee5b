-- Numbers of users: what a new object, one that goes and one that changes make of them.
use Rattle.std.proofs.Common.{◌≡◌, ℕ, ◌+◌, ◌*◌, ◌<◌, ◌≤◌, refl, ap, sym, ◌∙◌, arith, Bool, not, ◌||◌, eqb, List, [], ◌∷◌, ◌++◌, length, get_or, set, slice_index}
use Rattle.std.specs.List.{sum_by, list_any}
use Rattle.std.proofs.lemmas.List.Sums.{sum_by-cons, sum_by-set, sum_by_push, sum_by-le}
use Rattle.device_commands.specs.Users.{IsTally}

or_more : (a b : ℕ) → (not (eqb a 0) || not (eqb b 0)) ≡ not (eqb (a + b) 0)
or_more a b = grind arith

-- some item passes a test exactly where the numbers that go with the test have a sum
pub any_sum : {X : Type 0} (p : X → Bool) (f : X → ℕ) → ((x : X) → p x ≡ not (eqb (f x) 0)) → (xs : List X) → list_any p xs ≡ not (eqb (sum_by f xs) 0)
any_sum p f same [] = refl
any_sum p f same (x ∷ xs) = rw (same x, any_sum p f same xs, sum_by-cons f x xs) (or_more (f x) (sum_by f xs))

-- one item's number is at most the sum
pub part_of_sum : {X : Type 0} (f : X → ℕ) (xs : List X) (k : ℕ) (x none : X) → k < length xs → get_or xs k none ≡ x → f none ≡ 0 → f x ≤ sum_by f xs
part_of_sum f xs k x none inside is zero =
    let changed = sum_by-set f xs k none none inside in
    let here : f (get_or xs k none) ≡ f x = ap f is in
    omega (arith, changed, here, zero)

-- a new item
pub tally_push : {X : Type 0} (users later : List ℕ) (uses : ℕ → X → ℕ) (items : List X) (new : X)
    → IsTally users uses items → length later ≡ length users
    → ((n : ℕ) → n < length users → slice_index later n ≡ slice_index users n + uses n new)
    → IsTally later uses (items ++ new ∷ [])
tally_push users later uses items new tally long more n h =
    let inside : n < length users = omega (arith, long) in
    more n inside ∙ (ap (λ (k : ℕ). k + uses n new) (tally n inside) ∙ sym (sum_by_push (uses n) items new))

-- an item that goes
pub tally_gone : {X : Type 0} (users later : List ℕ) (uses : ℕ → X → ℕ) (items : List X) (k : ℕ) (gone none : X)
    → IsTally users uses items → k < length items → get_or items k none ≡ gone → ((n : ℕ) → uses n none ≡ 0) → length later ≡ length users
    → ((n : ℕ) → n < length users → slice_index users n ≡ slice_index later n + uses n gone)
    → IsTally later uses (set items k none)
tally_gone users later uses items k gone none tally inside is zero long less n h =
    let here : n < length users = omega (arith, long) in
    let changed = sum_by-set (uses n) items k none none inside in
    let was : uses n (get_or items k none) ≡ uses n gone = ap (uses n) is in
    omega (arith, changed, was, zero n, less n here, tally n here)

-- an item that changes and uses the same
pub tally_same : {X : Type 0} (users : List ℕ) (uses : ℕ → X → ℕ) (items : List X) (k : ℕ) (old new none : X)
    → IsTally users uses items → k < length items → get_or items k none ≡ old → ((n : ℕ) → uses n new ≡ uses n old)
    → IsTally users uses (set items k new)
tally_same users uses items k old new none tally inside is same n h =
    let changed = sum_by-set (uses n) items k new none inside in
    let was : uses n (get_or items k none) ≡ uses n old = ap (uses n) is in
    omega (arith, changed, was, same n, tally n h)

-- few items have a small sum
pub tally_few : {X : Type 0} (users : List ℕ) (uses : ℕ → X → ℕ) (items : List X) (n most : ℕ)
    → IsTally users uses items → n < length users → ((x : X) → uses n x ≤ most) → slice_index users n ≤ length items * most
tally_few users uses items n most tally h each =
    omega (arith, tally n h, sum_by-le (uses n) most items (λ k d inside. each (get_or items k d)))
