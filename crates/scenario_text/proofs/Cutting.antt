-- Some of the lines of a text are the lines of a text of their own.
use Rattle.std.proofs.Common.{◌≡◌, ℕ, ◌+◌, ◌≤◌, ◌==◌, Bool, true, false, cond, List, [], ◌∷◌, ◌++◌, append-nil, append_assoc, length, length-append, nat_lt, All, None, Ok, Err, refl, sym, ap, ◌∙◌, arith}
use Rattle.std.specs.List.{filter, flat_map, join_with_byte, onto_first}
use Rattle.std.proofs.lemmas.Bool.Decides.{nat_tests}
use Rattle.std.proofs.lemmas.List.Concat.{flat_map-cons}
use Rattle.std.proofs.lemmas.List.Elements.{All-nil, All-cons, All-head, All-tail, All-filter, filter-append}
use Rattle.std.proofs.lemmas.List.Splits.{slice_split_at, join_with_byte-slice_split}
use Rattle.scenario_text.specs.After.{after_line}
use Rattle.scenario_text.specs.Printing.{ended}
use Rattle.scenario_text.specs.Rules.{fault_of}
use Rattle.scenario_text.specs.Sofar.{Said}
use Rattle.scenario_text.specs.Text.{split}
use Rattle.scenario_text.specs.Whole.{Says, Answer, broken, nothing_said, reading_from}
use Rattle.scenario_text.specs.declared.fault.LimitName.TheVariants.{Text}
use Rattle.scenario_text.specs.declared.fault.ScenarioFault.TheVariants.{Limit}
use Rattle.scenario_text.specs.declared.fault.TextRule.TheVariants.{Missing}
use Rattle.scenario_text.specs.declared.scenario.ScenarioParts.{ScenarioParts}
use Rattle.scenario_text.proofs.AllLines.{unbroken}
use Rattle.scenario_text.proofs.Reading.{HasFirst, first_part}

-- no separator is among the bytes
abbrev IsClean : ℕ → List ℕ → Type 0
IsClean c part = All (λ b. (b == c) ≡ false) part

clean_by : (c b : ℕ) (parts : List (List ℕ)) (ends : Bool) → (b == c) ≡ ends → All (IsClean c) parts → All (IsClean c) (cond ends ([] ∷ parts) (onto_first b parts))
clean_by c b parts true is h = All-cons (IsClean c) [] parts (All-nil (λ x. (x == c) ≡ false)) h
clean_by c b [] false is h = All-cons (IsClean c) (b ∷ []) [] (All-cons (λ x. (x == c) ≡ false) b [] is (All-nil (λ x. (x == c) ≡ false))) (All-nil (IsClean c))
clean_by c b (part ∷ parts) false is h =
    All-cons (IsClean c) (b ∷ part) parts (All-cons (λ x. (x == c) ≡ false) b part is (All-head (IsClean c) part parts h)) (All-tail (IsClean c) part parts h)

-- parts have no separators
parts_clean : (c : ℕ) (bytes : List ℕ) → All (IsClean c) (split c bytes)
parts_clean c [] = All-cons (IsClean c) [] [] (All-nil (λ x. (x == c) ≡ false)) (All-nil (IsClean c))
parts_clean c (b ∷ bytes) = clean_by c b (split c bytes) (b == c) refl (parts_clean c bytes)

-- lines with their ends are these lines, and nothing after the last end
split_ended : (lines : List (List ℕ)) → All (IsClean 10) lines → split 10 (flat_map ended lines) ≡ lines ++ [] ∷ []
split_ended [] h = refl
split_ended (l ∷ lines) h =
    ap (split 10) (flat_map-cons ended l lines ∙ append_assoc l (10 ∷ []) (flat_map ended lines))
    ∙ slice_split_at (λ b. b == 10) l 10 (flat_map ended lines) (All-head (IsClean 10) l lines h) refl
    ∙ ap (λ (rest : List (List ℕ)). l ∷ rest) (split_ended lines (All-tail (IsClean 10) l lines h))

-- nothing stands after the last line end
record EndsEmpty (parts : List (List ℕ)) : Type 0 where
  front : List (List ℕ)
  is : parts ≡ front ++ [] ∷ []

none_first : (parts : List (List ℕ)) → HasFirst parts → parts ≡ [] → ⊥
none_first parts h is = by h.first h.more (sym is ∙ h.is)
  where
    by : (first : List ℕ) (more : List (List ℕ)) → [] ≡ first ∷ more → ⊥
    by first more e = cc

ends_empty : (parts : List (List ℕ)) (s : Said) (p : ScenarioParts) → HasFirst parts → reading_from s parts ≡ Ok p → EndsEmpty parts
ends_empty [] s p some h = absurd (none_first [] some refl)
ends_empty ([] ∷ []) s p some h = record { front = []; is = refl }
ends_empty ((b ∷ bs) ∷ []) s p some h =
    let all : (fault_of s (b ∷ bs) ≡ None) × (broken (s.count + 1) Missing ≡ Ok p) = unbroken (fault_of s (b ∷ bs)) (s.count + 1) (broken (s.count + 1) Missing) p h in
    let never : broken (s.count + 1) Missing ≡ Ok p = all.1 in
    absurd (cc)
ends_empty (bytes ∷ next ∷ more) s p some h =
    let all : (fault_of s bytes ≡ None) × (reading_from (after_line s bytes) (next ∷ more) ≡ Ok p) = unbroken (fault_of s bytes) (s.count + 1) (reading_from (after_line s bytes) (next ∷ more)) p h in
    let rest = ends_empty (next ∷ more) (after_line s bytes) p (record { first = next; more = more; is = refl }) all.1 in
    record { front = bytes ∷ rest.front; is = ap (λ (parts : List (List ℕ)). bytes ∷ parts) rest.is }

join_ended : (front : List (List ℕ)) → join_with_byte 10 (front ++ [] ∷ []) ≡ flat_map ended front
join_ended [] = refl
join_ended (l ∷ []) = sym (flat_map-cons ended l [] ∙ append-nil (ended l))
join_ended (l ∷ next ∷ front) =
    ap (λ rest. l ++ 10 ∷ rest) (join_ended (next ∷ front)) ∙ sym (flat_map-cons ended l (next ∷ front) ∙ append_assoc l (10 ∷ []) (flat_map ended (next ∷ front)))

-- some of the lines are no longer than all
fewer : (keep : List ℕ → Bool) (lines : List (List ℕ)) → length (flat_map ended (filter keep lines)) ≤ length (flat_map ended lines)
fewer keep [] = omega arith
fewer keep (l ∷ lines) = by (keep l) (fewer keep lines)
  where
    all : length (flat_map ended (l ∷ lines)) ≡ length (ended l) + length (flat_map ended lines)
    all = ap length (flat_map-cons ended l lines) ∙ length-append (ended l) (flat_map ended lines)

    by : (here : Bool) → length (flat_map ended (filter keep lines)) ≤ length (flat_map ended lines)
        → length (flat_map ended (cond here (l ∷ filter keep lines) (filter keep lines))) ≤ length (flat_map ended (l ∷ lines))
    by true le = omega (arith, all, le, ap length (flat_map-cons ended l (filter keep lines)), length-append (ended l) (flat_map ended (filter keep lines)))
    by false le = omega (arith, all, le)

module _ (keep : List ℕ → Bool) (empty : keep [] ≡ false) (text : List ℕ) where
  short : (long : Bool) → nat_lt 4194304 (length text) ≡ long → (p : ScenarioParts) → cond long (Err (Limit Text 4194305)) (reading_from nothing_said (split 10 text)) ≡ Ok p
      → (length text ≤ 4194304) × (reading_from nothing_said (split 10 text) ≡ Ok p)
  short true is p h = absurd (cc)
  short false is p h = (grind (arith, nat_tests), h)

  long_not : (long : Bool) (bytes : List ℕ) (rest : Answer) → nat_lt 4194304 (length bytes) ≡ long → length bytes ≤ 4194304 → cond long (Err (Limit Text 4194305)) rest ≡ rest
  long_not true bytes rest is le = absurd (grind (arith, nat_tests))
  long_not false bytes rest is le = refl

  kept_length : EndsEmpty (split 10 text) → length (flat_map ended (filter keep (split 10 text))) ≤ length text
  kept_length e =
      let whole : text ≡ flat_map ended e.front = sym (join_with_byte-slice_split 10 text) ∙ ap (join_with_byte 10) e.is ∙ join_ended e.front in
      let kept : filter keep (split 10 text) ≡ filter keep e.front =
      ap (filter keep) e.is ∙ filter-append keep e.front ([] ∷ []) ∙ ap (λ b. filter keep e.front ++ cond b ([] ∷ []) []) empty ∙ append-nil (filter keep e.front)
      in
      omega (arith, fewer keep e.front, ap (λ ls. length (flat_map ended ls)) kept, ap length whole)

  -- the lines that are kept, read one by one, are what their text says
  pub kept_say : (p q : ScenarioParts) → Says text p → reading_from nothing_said (filter keep (split 10 text) ++ [] ∷ []) ≡ Ok q → Says (flat_map ended (filter keep (split 10 text))) q
  kept_say p q says h =
      let all = short (nat_lt 4194304 (length text)) refl p says in
      let e = ends_empty (split 10 text) nothing_said p (first_part 10 text) all.1 in
      let bytes = flat_map ended (filter keep (split 10 text)) in
      long_not (nat_lt 4194304 (length bytes)) bytes (reading_from nothing_said (split 10 bytes)) refl (omega (arith, kept_length e, all.0))
      ∙ ap (reading_from nothing_said) (split_ended (filter keep (split 10 text)) (All-filter keep (IsClean 10) (split 10 text) (parts_clean 10 text))) ∙ h
