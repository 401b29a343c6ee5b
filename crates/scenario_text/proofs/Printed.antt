-- A field that keeps the rules is what is printed of its value.
use Rattle.std.proofs.Common.{◌≡◌, ℕ, zero, suc, ◌+◌, ◌<◌, ◌^◌, Bool, true, false, true≢false, not, ◌&&◌, cond, nat_lt, nat_eq, List, [], ◌∷◌, ◌++◌, codes, decimal, length, length-drop, get_or, drop, IsTrue, None, Some, unwrap_or, refl, sym, ap, ap₂, ◌∙◌, arith}
use Rattle.std.specs.List.{starts_with, list_all}
use Rattle.std.specs.Str.Parse.{AllDigits, digits_value}
use Rattle.std.proofs.lemmas.Bool.{and_parts}
use Rattle.std.proofs.lemmas.Bool.Decides.{nat_tests, Decides-eqb}
use Rattle.std.proofs.lemmas.Fmt.{decimal-digits_value}
use Rattle.std.proofs.lemmas.Slice.Eq.{starts_is}
use Rattle.std.proofs.lemmas.Str.Parse.{IsNumeralModel, numerals_by_value, tells_digits}
use Rattle.std.proofs.lemmas.List.Splits.{join_with_byte-slice_split}
use Rattle.scenario_text.specs.Printing.{ended}
use Rattle.scenario_text.specs.Requests.{line}
use Rattle.scenario_text.specs.Rules.{all_keep}
use Rattle.scenario_text.specs.Slots.{after_rq}
use Rattle.scenario_text.specs.Text.{Field, Line, split, part_at, is_digit, is_digits, has_leading_zero, is_number, read_number}
use Rattle.scenario_text.specs.declared.slot.Slot.{Slot}
use Rattle.scenario_text.proofs.Events.{drop_here}
use Rattle.scenario_text.proofs.Numbers.{digits_small}
use Rattle.std.proofs.Math.ListN.{drop_of_length-le}

own : IsNumeralModel (AllDigits 10) (digits_value 10)
own = numerals_by_value (AllDigits 10) tells_digits

-- a zero stands first only alone
zero_alone : (ds : Field) → has_leading_zero ds ≡ false → 0 < length ds → get_or ds 0 0 ≡ 48 → length ds ≡ 1
zero_alone [] h some zero_first = absurd (omega (arith, some))
zero_alone (d ∷ []) h some zero_first = refl
zero_alone (d ∷ e ∷ ds) h some zero_first =
    let long : nat_lt 1 (length (d ∷ e ∷ ds)) ≡ true = grind (arith, nat_tests) in
    let zero_is : starts_with nat_eq (d ∷ e ∷ ds) (codes "0") ≡ true = ap (λ x. starts_with nat_eq (x ∷ e ∷ ds) (codes "0")) zero_first in
    absurd (true≢false (sym (ap₂ (λ a b. a && b) long zero_is) ∙ h))

pub number_printed : (field : Field) → IsTrue (is_number field) → decimal (unwrap_or (read_number field) 0) ≡ field
number_printed field h =
    let small = and_parts (is_digits field && not (has_leading_zero field)) (nat_lt (digits_value 10 field) (2 ^ 64)) h in
    let digits = and_parts (is_digits field) (not (has_leading_zero field)) small.0 in
    let all = and_parts (nat_lt 0 (length field)) (list_all is_digit field) digits.0 in
    let some : 0 < length field = grind (arith, nat_tests) in
    let plain : has_leading_zero field ≡ false = grind arith in
    ap (λ b. decimal (unwrap_or (cond b (Some (digits_value 10 field)) None) 0)) h
    ∙ decimal-digits_value own field (digits_small field all.1) some (zero_alone field plain some) (grind (arith, nat_tests))

-- what stands after `rq:`
pub recv_log_printed : (field : Field) → IsTrue (starts_with nat_eq field (codes "rq:")) → IsTrue (is_number (after_rq field))
    → codes "rq:" ++ decimal (unwrap_or (read_number (after_rq field)) 0) ≡ field
recv_log_printed field begins number =
    ap (λ ds. codes "rq:" ++ ds) (number_printed (after_rq field) number) ∙ sym ((starts_is Decides-eqb field (codes "rq:") (starts_with nat_eq field (codes "rq:")) refl).0 begins)

-- a line of these fields is the bytes that they were cut from
pub line_printed : (bytes : List ℕ) → line (split 32 bytes) ≡ ended bytes
line_printed bytes = ap (λ (l : List ℕ). l ++ 10 ∷ []) (join_with_byte-slice_split 32 bytes)

-- so many places of a line from this one on
abbrev pub from_place : ℕ → ℕ → Line → Line
from_place place zero fields = []
from_place place (suc n) fields = part_at fields place ∷ from_place (place + 1) n fields

pub from_all : (place n : ℕ) (fields : Line) → length fields ≡ place + n → from_place place n fields ≡ drop place fields
from_all place zero fields h = sym (drop_of_length-le fields (omega (arith, h)))
from_all place (suc n) fields h =
    let one : suc place ≡ place + 1 = omega arith in
    ap (λ (rest : Line). part_at fields place ∷ rest) (from_all (place + 1) n fields (omega (arith, h)) ∙ ap (λ k. drop k fields) (sym one)) ∙ sym (drop_here fields place [] (omega (arith, h)))

-- a line has a field for each of its places
pub all_places : (ok : Slot → Field → Bool) (slots : List Slot) (fields : Line) → IsTrue (all_keep ok slots None fields) → length fields ≡ length slots
all_places ok [] [] h = refl
all_places ok [] (f ∷ fs) h = absurd (cc)
all_places ok (slot ∷ slots) [] h = absurd (cc)
all_places ok (slot ∷ slots) (f ∷ fs) h = ap suc (all_places ok slots fs (and_parts (ok slot f) (all_keep ok slots None fs) h).1)

-- a line of this word is its fields, place by place
pub whole_line : (ok : Slot → Field → Bool) (slots : List Slot) (fields : Line) → 0 < length fields → IsTrue (all_keep ok slots None (drop 1 fields)) → from_place 0 (length slots + 1) fields ≡ fields
whole_line ok slots fields some h = from_all 0 (length slots + 1) fields (omega (arith, some, length-drop 1 fields, all_places ok slots (drop 1 fields) h))
