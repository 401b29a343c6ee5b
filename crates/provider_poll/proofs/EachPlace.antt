-- Where the queue of each queue pair stands among those of a poll.
use Rattle.std.proofs.lemmas.Bool.Decides.{nat_tests}
use Rattle.std.proofs.Common.{◌≡◌, ℕ, zero, suc, ◌+◌, ◌-◌, ◌++◌, ◌==◌, nat_lt, refl, sym, ap, ◌∙◌, arith, Bool, true, false, cond, List, [], ◌∷◌, length, map, get_or, slice_get, slice_set, Option, Some, None, if◌then◌else◌}
use Rattle.std.specs.List.{position_from}
use Rattle.std.proofs.lemmas.Iterator.Adapters.{position_from-zero}
use Rattle.std.proofs.lemmas.Simd.{map-map}
use Rattle.std.proofs.Math.Seq.{get_or-append_seam}
use Rattle.verbs_types.specs.declared.declaration.TheConstants.{FIRST_QP}
use Rattle.provider_poll.specs.SendQueue.{SendView, forgotten_queue}
use Rattle.provider_poll.specs.SendQueues.{place_among, HasEachPlace}
use Rattle.provider_poll.specs.PollStep.{place_of_number}
use Rattle.provider_poll.proofs.Places.{stays}

abbrev number_of : SendView → ℕ
number_of q = q.number

abbrev is_of : ℕ → SendView → Bool
is_of number q = q.number == number

module _ {X : Type 0} (p : X → Bool) (y : X) where
  -- an item that does not pass is no first one
  pushed : (i : ℕ) (xs : List X) → p y ≡ false → position_from p i (xs ++ y ∷ []) ≡ position_from p i xs
  pushed i [] fails = ap (λ b. cond b (Some i) None) fails
  pushed i (x ∷ xs) fails = ap (λ rest. cond (p x) (Some i) rest) (pushed (i + 1) xs fails)

  -- an item that passes is the first one where there was none
  first_pushed : (i : ℕ) (xs : List X) → position_from p i xs ≡ None → p y ≡ true → position_from p i (xs ++ y ∷ []) ≡ Some (i + length xs)
  first_pushed i [] none passes = let same : i ≡ i + 0 = omega arith in ap (λ b. cond b (Some i) None) passes ∙ ap (λ n. Some n) same
  first_pushed i (x ∷ xs) none passes = by_test (p x) none (λ none. first_pushed (i + 1) xs none passes) where
    by_test : (b : Bool) → cond b (Some i) (position_from p (i + 1) xs) ≡ None → (position_from p (i + 1) xs ≡ None → position_from p (i + 1) (xs ++ y ∷ []) ≡ Some (i + 1 + length xs)) → cond b (Some i) (position_from p (i + 1) (xs ++ y ∷ [])) ≡ Some (i + suc (length xs))
    by_test true none rest = absurd cc
    by_test false none rest = let same : i + 1 + length xs ≡ i + suc (length xs) = omega arith in rest none ∙ ap (λ n. Some n) same

-- a place goes by the numbers of the queue pairs alone
by_numbers : (number i : ℕ) (qs : List SendView) → position_from (is_of number) i qs ≡ position_from (λ n. n == number) i (map number_of qs)
by_numbers number i [] = refl
by_numbers number i (q ∷ qs) = ap (λ rest. cond (q.number == number) (Some i) rest) (by_numbers number (i + 1) qs)

placed : (number : ℕ) (qs : List SendView) → place_of_number qs number ≡ position_from (is_of number) 0 qs
placed number qs = position_from-zero (is_of number) qs

pub same_numbers : (places : List (Option ℕ)) (old new : List SendView) → map number_of new ≡ map number_of old → HasEachPlace places old → HasEachPlace places new
same_numbers places old new same has number =
    has number ∙ placed number old ∙ by_numbers number 0 old ∙ ap (position_from (λ n. n == number) 0) (sym same) ∙ sym (by_numbers number 0 new) ∙ sym (placed number new)

-- a queue that goes on has the number that it had
pub one_goes_on : (places : List (Option ℕ)) (old : List SendView) (i : ℕ) (before after : SendView) → slice_get old i ≡ Some before → after.number ≡ before.number → HasEachPlace places old → HasEachPlace places (slice_set old i after)
one_goes_on places old i before after found same = same_numbers places old (slice_set old i after) (stays number_of old i before after found same)

pub all_forget : (places : List (Option ℕ)) (old : List SendView) → HasEachPlace places old → HasEachPlace places (map forgotten_queue old)
all_forget places old = same_numbers places old (map forgotten_queue old) (map-map number_of forgotten_queue old)

-- one more place, at the end
get_other : (places : List (Option ℕ)) (x : Option ℕ) (k : ℕ) → (k ≡ length places → ⊥) → get_or (places ++ x ∷ []) k None ≡ get_or places k None
get_other [] x zero other = absurd (other refl)
get_other [] x (suc k) other = refl
get_other (p ∷ ps) x zero other = refl
get_other (p ∷ ps) x (suc k) other = get_other ps x k (λ same. other (ap suc same))

get_none : (places : List (Option ℕ)) (k : ℕ) → get_or (places ++ None ∷ []) k None ≡ get_or places k None
get_none [] zero = refl
get_none [] (suc k) = refl
get_none (p ∷ ps) zero = refl
get_none (p ∷ ps) (suc k) = get_none ps k

get_past : (places : List (Option ℕ)) → get_or places (length places) None ≡ None
get_past [] = refl
get_past (p ∷ ps) = get_past ps

stands_at : (number k : ℕ) → nat_lt number FIRST_QP ≡ false → number - FIRST_QP ≡ k → (places : List (Option ℕ)) → place_among places number ≡ get_or places k None
stands_at number k high index places = ap (λ b. if b then None else get_or places (number - FIRST_QP) None) high ∙ ap (λ k. get_or places k None) index

-- no queue has a place before there is one
pub no_places : HasEachPlace [] []
no_places number = by_test (nat_lt number FIRST_QP) where
  by_test : (b : Bool) → ◌≡◌ {A = Option ℕ} (if b then None else get_or [] (number - FIRST_QP) None) None
  by_test true = refl
  by_test false = refl

module _ (places : List (Option ℕ)) (queues : List SendView) (has : HasEachPlace places queues) where
  -- a queue pair that completes elsewhere
  pub passed : HasEachPlace (places ++ None ∷ []) queues
  passed number = ap (λ (place : Option ℕ). if nat_lt number FIRST_QP then None else place) (get_none places (number - FIRST_QP)) ∙ has number

  module _ (q : SendView) (next : q.number ≡ FIRST_QP + length places) where
    this : (number : ℕ) → is_of number q ≡ true → place_among (places ++ Some (length queues) ∷ []) number ≡ place_of_number (queues ++ q ∷ []) number
    this number test =
        let is : number ≡ FIRST_QP + length places = grind (arith, nat_tests) in
        let high : nat_lt number FIRST_QP ≡ false = grind (arith, nat_tests) in
        let index : number - FIRST_QP ≡ length places = omega (arith, is) in
        let none = sym (placed number queues) ∙ sym (has number) ∙ stands_at number (length places) high index places ∙ get_past places in
        let last : length queues ≡ 0 + length queues = omega arith in
        stands_at number (length places) high index (places ++ Some (length queues) ∷ []) ∙ get_or-append_seam places (Some (length queues)) [] None ∙ ap (λ n. Some n) last ∙ sym (first_pushed (is_of number) q 0 queues none test) ∙ sym (placed number (queues ++ q ∷ []))

    another : (number : ℕ) → is_of number q ≡ false → place_among (places ++ Some (length queues) ∷ []) number ≡ place_of_number (queues ++ q ∷ []) number
    another number test = by_test (nat_lt number FIRST_QP) refl ∙ has number ∙ placed number queues ∙ sym (pushed (is_of number) q 0 queues test) ∙ sym (placed number (queues ++ q ∷ [])) where
      by_test : (b : Bool) → nat_lt number FIRST_QP ≡ b → (if b then None else get_or (places ++ Some (length queues) ∷ []) (number - FIRST_QP) None) ≡ (if b then None else get_or places (number - FIRST_QP) None)
      by_test true low = refl
      by_test false high = get_other places (Some (length queues)) (number - FIRST_QP) (λ same. let no : ⊥ = grind (arith, nat_tests) in no)

    -- a queue pair that completes here
    pub grown : HasEachPlace (places ++ Some (length queues) ∷ []) (queues ++ q ∷ [])
    grown number = by_test (is_of number q) refl where
      by_test : (b : Bool) → is_of number q ≡ b → place_among (places ++ Some (length queues) ∷ []) number ≡ place_of_number (queues ++ q ∷ []) number
      by_test true test = this number test
      by_test false test = another number test
