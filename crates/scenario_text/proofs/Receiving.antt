-- A receive whose line is formed and within its limits can be carried.
use Rattle.std.proofs.Common.{◌≡◌, ℕ, ◌+◌, ◌-◌, ◌^◌, ◌<◌, ◌≤◌, Bool, true, false, not, ◌&&◌, nat_lt, cond, min, [], ◌∷◌, map, length, All, IsTrue, Some, None, unwrap_or, true≢false, refl, sym, ap, ◌∙◌, arith}
use Rattle.std.specs.List.{list_all}
use Rattle.std.specs.Str.Parse.{digits_value}
use Rattle.std.proofs.lemmas.Bool.{and_parts, and_from, eq-eqb, ltb-true, not-true}
use Rattle.std.proofs.lemmas.List.{length-map}
use Rattle.std.proofs.lemmas.List.Elements.{All-nil, All-cons}
use Rattle.std.proofs.lemmas.List.Sums.{sum_by-cons}
use Rattle.verbs_types.specs.declared.request.Sge.{Sge}
use Rattle.scenario_text.specs.AfterCalls.{receive_in}
use Rattle.scenario_text.specs.Bounds.{segment_bounds}
use Rattle.scenario_text.specs.Calls.{CanReceive, IsSegment, bytes_of, list_end}
use Rattle.scenario_text.specs.Segments.{segment_fields, segment_part, segment_in, length_in, has_numbers, is_formed, is_list_end}
use Rattle.scenario_text.specs.Text.{Field, Line, small, number_at, read_number, is_digits, has_leading_zero}
use Rattle.scenario_text.proofs.Keys.{key_below}
use Rattle.scenario_text.proofs.Within.{AllWithin}

-- a number is below 2^64
pub number_below : (digits : Field) → unwrap_or (read_number digits) 0 < 2 ^ 64
number_below digits = by (is_digits digits && not (has_leading_zero digits)) (nat_lt (digits_value 10 digits) (2 ^ 64)) refl
  where
    by : (formed low : Bool) → nat_lt (digits_value 10 digits) (2 ^ 64) ≡ low → unwrap_or (cond (formed && low) (Some (digits_value 10 digits)) None) 0 < 2 ^ 64
    by true true is = ltb-true (digits_value 10 digits) (2 ^ 64) is
    by true false is = omega arith
    by false low is = omega arith

-- there are as many segments as the queue allows
few_segments : (fields : Line) (most place before : ℕ) → place ≤ most + 1 → AllWithin (segment_bounds most place before fields) → place + length fields ≤ most + 1
few_segments [] most place before low within = omega (arith, low)
few_segments (f ∷ fs) most place before low within =
    omega (arith, few_segments fs most (place + 1) _ (omega (arith, within.1)) within.2.2.2)

-- and they have few bytes together
few_bytes : (fields : Line) (most place before : ℕ) → before ≤ 65536 → AllWithin (segment_bounds most place before fields) → before + bytes_of (map segment_in fields) ≤ 65536
few_bytes [] most place before low within = omega (arith, low)
few_bytes (f ∷ fs) most place before low within =
    let total : min (length_in f + before) (2 ^ 64 - 1) ≤ 65536 = within.2.2.1 in
    let sum : bytes_of (map segment_in (f ∷ fs)) ≡ small (length_in f) + bytes_of (map segment_in fs) = sum_by-cons (λ (s : Sge). s.len) (segment_in f) (map segment_in fs) in
    omega (arith, total, within.2.1, sum, few_bytes fs most (place + 1) _ total within.2.2.2)

-- an entry that ends a list is none of a receive
real : (f : Field) → IsTrue (is_formed f) → IsTrue (has_numbers f) → segment_in f ≡ list_end → ⊥
real f formed numbers ends =
    let no_end : IsTrue (not (has_numbers f && is_list_end (segment_in f))) = (and_parts _ _ formed).1 in
    let is_end : IsTrue (is_list_end (segment_in f)) =
    and_from _ _ (and_from _ _ (eq-eqb _ 0x100 (ap (λ (s : Sge). s.key) ends)) (eq-eqb _ 0 (ap (λ (s : Sge). s.addr) ends))) (eq-eqb _ 0 (ap (λ (s : Sge). s.len) ends))
    in
    true≢false (sym (and_from _ _ numbers is_end) ∙ not-true _ no_end)

all_segments : (fields : Line) (most place before : ℕ) → IsTrue (list_all is_formed fields) → IsTrue (list_all has_numbers fields) → AllWithin (segment_bounds most place before fields)
    → All IsSegment (map segment_in fields)
all_segments [] most place before formed numbers within = All-nil IsSegment
all_segments (f ∷ fs) most place before formed numbers within =
    let form = and_parts (is_formed f) (list_all is_formed fs) formed in
    let number = and_parts (has_numbers f) (list_all has_numbers fs) numbers in
    let one : IsSegment (segment_in f) = record {
      key = key_below (segment_part f 0);
      addr = number_below (segment_part f 1);
      len = omega (arith, within.2.1);
      real = real f form.0 number.0;
    }
    in
    All-cons IsSegment (segment_in f) (map segment_in fs) one (all_segments fs most (place + 1) _ form.1 number.1 within.2.2.2)

pub can_receive : (line : Line) (most : ℕ) → IsTrue (list_all is_formed (segment_fields line)) → IsTrue (list_all has_numbers (segment_fields line)) → AllWithin (segment_bounds most 1 0 (segment_fields line))
    → number_at line 1 < 2 ^ 64 → CanReceive most (receive_in line)
can_receive line most formed numbers within low = record {
  id = low;
  few = omega (arith, few_segments (segment_fields line) most 1 0 (omega arith) within, length-map (segment_fields line) segment_in);
  segments = all_segments (segment_fields line) most 1 0 formed numbers within;
  bytes = omega (arith, few_bytes (segment_fields line) most 1 0 (omega arith) within);
}
