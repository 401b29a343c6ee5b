-- The number that digits spell.
use Rattle.std.proofs.Common.{◌≡◌, ℕ, zero, suc, ◌<◌, ◌^◌, Bool, true, false, ◌==◌, not, ◌&&◌, cond, nat_lt, List, [], ◌∷◌, length, drop, Result, Some, None, Ok, Err, refl, sym, true≢false, ap, subst, IsUtf8, arith, lit<}
use Rattle.std.specs.Char.{digit_value}
use Rattle.std.specs.List.{list_all}
use Rattle.std.specs.Result.{result_ok, OkIff}
use Rattle.std.specs.Str.Parse.{AllDigits, IsNumeral, digits_value, ParsesUnsigned, without_leading_plus}
use Rattle.std.specs.Str.{IsAscii}
use Rattle.std.proofs.lemmas.Str.{IsUtf8-from_ascii}
use Rattle.std.proofs.lemmas.Bool.{and_parts}
use Rattle.std.proofs.lemmas.Bool.Decides.{nat_tests}
use Rattle.scenario_text.specs.Text.{is_digit, is_digits, has_leading_zero, read_number}

-- a digit is of the decimal digits, and no sign
digit_small : (b : ℕ) → is_digit b ≡ true → digit_value b < 10
digit_small b h = grind (arith, nat_tests)

pub digits_small : (ds : List ℕ) → list_all is_digit ds ≡ true → AllDigits 10 ds
digits_small [] h = tt
digits_small (d ∷ ds) h = let parts = and_parts (is_digit d) (list_all is_digit ds) h in (digit_small d parts.0, digits_small ds parts.1)

no_sign : (d : ℕ) (ds : List ℕ) → is_digit d ≡ true → without_leading_plus (d ∷ ds) ≡ d ∷ ds
no_sign d ds h = let apart : (d == 43) ≡ false = grind (arith, nat_tests) in ap (λ (t : Bool). drop (cond t 1 0) (d ∷ ds)) apart

-- digits alone are a numeral without a sign
pub digits_numeral : (ds : List ℕ) → is_digits ds ≡ true → IsNumeral 10 ds × (without_leading_plus ds ≡ ds)
digits_numeral [] h = absurd (cc)
digits_numeral (d ∷ ds) h =
    let all = (and_parts (nat_lt 0 (length (d ∷ ds))) (list_all is_digit (d ∷ ds)) h).1 in
    let parts = and_parts (is_digit d) (list_all is_digit ds) all in
    ((omega arith, digits_small (d ∷ ds) all), no_sign d ds parts.0)

-- what `parse` gives of digits without zeros before them
gives : {E : Type 0} (ds : List ℕ) (r : Result ℕ E) (digits zeros small : Bool) → is_digits ds ≡ digits → digits ≡ true → zeros ≡ false → nat_lt (digits_value 10 ds) (2 ^ 64) ≡ small
    → OkIff r (IsNumeral 10 ds × (digits_value 10 ds < 2 ^ 64)) (digits_value 10 ds) → result_ok r ≡ (cond (digits && not zeros && small) (Some (digits_value 10 ds)) None)
gives ds (Ok x) true false true d t z s h = ap Some h.1
gives ds (Ok x) true false false d t z s h = absurd (grind (arith, nat_tests, h.0.1))
gives ds (Err e) true false true d t z s h = absurd (h ((digits_numeral ds d).0, grind (arith, nat_tests)))
gives ds (Err e) true false false d t z s h = refl
gives ds r false zeros small d t z s h = absurd (true≢false (sym t))
gives ds r true true small d t z s h = absurd (true≢false z)

pub read_by_parse : {E : Type 0} (ds : List ℕ) (r : Result ℕ E) → is_digits ds ≡ true → has_leading_zero ds ≡ false → ParsesUnsigned 64 10 ds r → result_ok r ≡ read_number ds
read_by_parse {E} ds r digits zeros h =
    gives ds r (is_digits ds) (has_leading_zero ds) (nat_lt (digits_value 10 ds) (2 ^ 64)) refl digits zeros refl
    (subst (λ (t : List ℕ). OkIff r (IsNumeral 10 t × (digits_value 10 t < 2 ^ 64)) (digits_value 10 t)) (digits_numeral ds digits).1 h)

ascii : (ds : List ℕ) → list_all is_digit ds ≡ true → IsAscii ds
ascii [] h i = lit< tt
ascii (d ∷ ds) h zero = let first = (and_parts (is_digit d) (list_all is_digit ds) h).0 in grind (arith, nat_tests)
ascii (d ∷ ds) h (suc i) = ascii ds (and_parts (is_digit d) (list_all is_digit ds) h).1 i

-- digits are a text
pub digits_utf8 : (ds : List ℕ) → is_digits ds ≡ true → IsUtf8 ds
digits_utf8 ds h = IsUtf8-from_ascii ds (ascii ds (and_parts (nat_lt 0 (length ds)) (list_all is_digit ds) h).1)
