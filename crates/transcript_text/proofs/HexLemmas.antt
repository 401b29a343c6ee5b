-- Hexadecimal digits, one by one from the first.
use Rattle.std.proofs.Common.{◌≡◌, ℕ, ◌+◌, ◌-◌, ◌*◌, ◌/◌, ◌%◌, ◌^◌, ◌<◌, ◌≤◌, List, [], ◌∷◌, ◌++◌, refl, sym, ap, ◌∙◌, arith, add-one, append_assoc, append-nil}
use Rattle.std.specs.Int.Bits.{bit_and}
use Rattle.std.proofs.lemmas.Nat.{shr-shr, and_mask}
use Rattle.scenario_text.specs.Requests.{hex, hex_digit}

-- the number without its digits below this place
abbrev pub from_place : ℕ → ℕ → ℕ
from_place n place = n / 2 ^ (4 * place)

-- digits are in the text down to this place, which is as many above 0 as are left of all
abbrev pub IsWrittenTo : List ℕ → List ℕ → ℕ → ℕ → ℕ → Type 0
IsWrittenTo old new digits n place = (k : ℕ) → k + place ≡ digits → new ≡ old ++ hex k (from_place n place)

pub none_written : (old : List ℕ) (digits n : ℕ) → IsWrittenTo old old digits n digits
unfolding hex
none_written old digits n k e = let none : k ≡ 0 = omega arith in rw none (sym (append-nil old))

hex-suc : (k m : ℕ) → hex (k + 1) m ≡ hex k (m / 16) ++ hex_digit (bit_and m 15) ∷ []
unfolding hex
hex-suc k m = let last : bit_and m 15 ≡ m % 16 = and_mask m 4 in rw (last, add-one k) refl

next_place : (n place : ℕ) → 0 < place → from_place n (place - 1) / 16 ≡ from_place n place
next_place n place above =
    let shift : 4 * (place - 1) + 4 ≡ 4 * place = omega arith in
    shr-shr n (4 * (place - 1)) 4 ∙ ap (λ s. n / 2 ^ s) shift

pub one_written : (old new : List ℕ) (digits n place : ℕ) → 0 < place → place ≤ digits → IsWrittenTo old new digits n place → IsWrittenTo old (new ++ hex_digit (bit_and (from_place n (place - 1)) 15) ∷ []) digits n (place - 1)
one_written old new digits n place above within h k e =
    let more : k ≡ (k - 1) + 1 = omega arith in
    let front : new ≡ old ++ hex (k - 1) (from_place n place) = h (k - 1) (omega arith) in
    let last = hex_digit (bit_and (from_place n (place - 1)) 15) ∷ [] in
    ap (λ t. t ++ last) (front ∙ ap (λ m. old ++ hex (k - 1) m) (sym (next_place n place above)))
    ∙ append_assoc old (hex (k - 1) (from_place n (place - 1) / 16)) last
    ∙ sym (ap (λ j. old ++ hex j (from_place n (place - 1))) more ∙ ap (λ t. old ++ t) (hex-suc (k - 1) (from_place n (place - 1))))

pub all_written : (old new : List ℕ) (digits n : ℕ) → IsWrittenTo old new digits n 0 → new ≡ old ++ hex digits n
all_written old new digits n h =
    let whole : n / 1 ≡ n = omega arith in
    h digits (omega arith) ∙ ap (λ m. old ++ hex digits m) whole
