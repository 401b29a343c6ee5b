-- Each line of a thread and of the plan is printed as it stands.
use Rattle.std.proofs.Common.{◌≡◌, ℕ, ◌+◌, ◌≤◌, ◌==◌, min, ◌&&◌, ◌||◌, Bool, true, false, true≢false, cond, List, [], ◌∷◌, ◌++◌, append-nil, append_assoc, map, decimal, length, IsTrue, None, Some, unwrap_or, bytes_eq, refl, sym, ap, ap₂, ◌∙◌, subst, arith}
use Rattle.std.specs.Bool.{⊤}
use Rattle.std.specs.List.{list_all, list_any, join_with_byte}
use Rattle.std.specs.Str.Parse.{digits_value}
use Rattle.std.proofs.lemmas.Bool.{and_parts, eqb-true}
use Rattle.std.proofs.lemmas.Bool.Decides.{nat_tests}
use Rattle.std.proofs.lemmas.List.Splits.{join_with_byte-slice_split}
use Rattle.std.proofs.lemmas.Slice.Eq.{bytes_eq-Decides}
use Rattle.verbs_types.specs.declared.declaration.Lines.{Lines}
use Rattle.verbs_types.specs.declared.request.Sge.{Sge}
use Rattle.scenario_text.specs.After.{plan_item}
use Rattle.scenario_text.specs.Bounds.{segment_bounds, together}
use Rattle.scenario_text.specs.Requests.{sge_text, key_text, or_dash, letter}
use Rattle.scenario_text.specs.Rules.{is_known}
use Rattle.scenario_text.specs.Segments as segments
use Rattle.scenario_text.specs.Segments.{segment_in, segment_part, length_in, segment_fields}
use Rattle.scenario_text.specs.Slots.{is_formed, has_number, are_flags, all_flags, has_flag, actor_part, times_part}
use Rattle.scenario_text.specs.Sofar.{Said}
use Rattle.scenario_text.specs.Spelling.{actor_name, item_text, times_text}
use Rattle.scenario_text.specs.Text.{Field, Line, split, part_at, is_number, read_number, is_digits}
use Rattle.scenario_text.specs.Uses.{named}
use Rattle.scenario_text.specs.declared.slot.Kind.TheVariants as kinds
use Rattle.scenario_text.specs.declared.slot.Slot.TheVariants.{Turns}
use Rattle.scenario_text.proofs.HeadLines.{small_is}
use Rattle.scenario_text.proofs.Keyed.{key_printed}
use Rattle.scenario_text.proofs.Printed.{number_printed, from_all}
use Rattle.scenario_text.proofs.Repeating.{AllCalled, name_printed}
use Rattle.scenario_text.proofs.Within.{AllWithin}

-- flags
abbrev printed_flags : Field → Field
printed_flags field = or_dash (letter (has_flag field 99) 99 ++ letter (has_flag field 115) 115 ++ letter (has_flag field 102) 102)

abbrev AllPrinted : List Field → Type 0
AllPrinted [] = ⊤
AllPrinted (word ∷ words) = (printed_flags word ≡ word) × AllPrinted words

one_printed : (field : Field) (words : List Field) → AllPrinted words → IsTrue (list_any (bytes_eq field) words) → printed_flags field ≡ field
one_printed field [] all h = absurd (true≢false (sym h))
one_printed field (word ∷ words) all h = by (bytes_eq field word) (bytes_eq-Decides field word).0 (one_printed field words all.1) h
  where
    by : (b : Bool) → (b ≡ true → field ≡ word) → (IsTrue (list_any (bytes_eq field) words) → printed_flags field ≡ field) → IsTrue (b || list_any (bytes_eq field) words) → printed_flags field ≡ field
    by true is rest h = subst (λ (f : Field). printed_flags f ≡ f) (sym (is refl)) all.0
    by false is rest h = rest h

pub flags_printed : (field : Field) → IsTrue (are_flags field) → printed_flags field ≡ field
flags_printed field = one_printed field all_flags (refl, (refl, (refl, (refl, (refl, (refl, (refl, (refl, tt))))))))

-- a list of three is its items
three_parts : (parts : List Field) → IsTrue (length parts == 3) → parts ≡ part_at parts 0 ∷ part_at parts 1 ∷ part_at parts 2 ∷ []
three_parts parts h = sym (from_all 0 3 parts (eqb-true (length parts) 3 h))

-- a scatter/gather entry
pub segment_printed : (field : Field) → IsTrue (segments.is_formed field) → IsTrue (segments.has_numbers field) → length_in field ≤ 65536 → sge_text (segment_in field) ≡ field
segment_printed field formed numbers low =
    let few : length_in field ≤ 4294967295 = omega (arith, low) in
    let real = and_parts _ _ formed in
    let len = and_parts _ _ real.0 in
    let addr = and_parts _ _ len.0 in
    let key = and_parts _ _ addr.0 in
    let both = and_parts (is_number (segment_part field 1)) (is_number (segment_part field 2)) numbers in
    let at_key : key_text (segment_in field).key ≡ segment_part field 0 = key_printed (segment_part field 0) key.1 in
    let at_addr : decimal (segment_in field).addr ≡ segment_part field 1 = number_printed (segment_part field 1) both.0 in
    let at_len : decimal (segment_in field).len ≡ segment_part field 2 = ap decimal (small_is (length_in field) few) ∙ number_printed (segment_part field 2) both.1 in
    (λ i. at_key i ++ 58 ∷ at_addr i ++ 58 ∷ at_len i)
    ∙ append_assoc (segment_part field 0) (58 ∷ segment_part field 1) (58 ∷ segment_part field 2)
    ∙ ap (join_with_byte 58) (sym (three_parts (split 58 field) key.0)) ∙ join_with_byte-slice_split 58 field

-- entries, none of which passes a limit
pub segments_printed : (most place before : ℕ) (fields : Line) → IsTrue (list_all segments.is_formed fields) → IsTrue (list_all segments.has_numbers fields) → AllWithin (segment_bounds most place before fields)
    → map (λ (s : Sge). sge_text s) (map segment_in fields) ≡ fields
segments_printed most place before [] formed numbers within = refl
segments_printed most place before (f ∷ fs) formed numbers within =
    let here = and_parts (segments.is_formed f) (list_all segments.is_formed fs) formed in
    let number = and_parts (segments.has_numbers f) (list_all segments.has_numbers fs) numbers in
    ap₂ (λ (x : Field) (xs : Line). x ∷ xs) (segment_printed f here.0 number.0 within.2.1) (segments_printed most (place + 1) (together (length_in f) before) fs here.1 number.1 within.2.2.2)

-- a list of which each item is printed as it stands
pub all_printed : {X : Type 0} (value : Field → X) (text : X → Field) (ok : Field → Bool) → ((f : Field) → IsTrue (ok f) → text (value f) ≡ f) → (fields : Line) → IsTrue (list_all ok fields)
    → map text (map value fields) ≡ fields
all_printed value text ok same [] h = refl
all_printed value text ok same (f ∷ fs) h =
    let both = and_parts (ok f) (list_all ok fs) h in
    ap₂ (λ (x : Field) (xs : Line). x ∷ xs) (same f both.0) (all_printed value text ok same fs both.1)

-- an item of a schedule
module _ (e : Lines) (s : Said) (called : AllCalled e s.names) where
  parts_counted : (parts : List Field) (field : Field) → join_with_byte 42 parts ≡ field → IsTrue ((length parts == 1) || ((length parts == 2) && is_digits (part_at parts 1)))
      → IsTrue ((length parts == 1) || is_number (part_at parts 1)) → part_at parts 0 ++ times_text (read_number (part_at parts 1)) ≡ field
  parts_counted [] field whole counted number = absurd (true≢false (sym counted))
  parts_counted (name ∷ []) field whole counted number = append-nil name ∙ whole
  parts_counted (name ∷ times ∷ []) field whole counted number =
      let read : read_number times ≡ Some (unwrap_or (read_number times) 0) = number_there times number in
      ap (λ o. name ++ times_text o) read ∙ ap (λ ds. name ++ 42 ∷ ds) (number_printed times number) ∙ whole
    where
      number_there : (f : Field) → IsTrue (is_number f) → read_number f ≡ Some (unwrap_or (read_number f) 0)
      number_there f h = ap (λ b. cond b (Some (digits_value 10 f)) None) h ∙ sym (ap (λ b. Some (unwrap_or (cond b (Some (digits_value 10 f)) None) 0)) h)
  parts_counted (name ∷ times ∷ more ∷ parts) field whole counted number =
      let one : (length (name ∷ times ∷ more ∷ parts) == 1) ≡ false = grind (arith, nat_tests) in
      let two : (length (name ∷ times ∷ more ∷ parts) == 2) ≡ false = grind (arith, nat_tests) in
      absurd (true≢false (sym counted ∙ ap₂ (λ a b. a || (b && is_digits times)) one two))

  pub item_printed : (field : Field) → IsTrue (is_known s Turns field) → named s kinds.Actor (actor_part field) ≤ 255 → IsTrue (is_formed Turns field) → IsTrue (has_number Turns field)
      → item_text e (plan_item s field) ≡ field
  item_printed field known low formed number =
      let few : min (named s kinds.Actor (actor_part field)) 255 ≡ named s kinds.Actor (actor_part field) = omega (arith, low) in
      let actor : actor_name e (min (named s kinds.Actor (actor_part field)) 255) ≡ actor_part field =
      ap (actor_name e) few ∙ name_printed e kinds.Actor (actor_part field) s.names called known
      in
      ap (λ (name : Field). name ++ times_text (read_number (times_part field))) actor
      ∙ parts_counted (split 42 field) field (join_with_byte-slice_split 42 field) (and_parts _ _ formed).1 number
