-- Comments and empty lines say nothing.
use Rattle.std.proofs.Common.{◌≡◌, ℕ, ◌+◌, ◌⊎◌, inl, inr, Bool, true, false, not, cond, List, [], ◌∷◌, ◌++◌, length, nat_lt, None, Ok, Err, refl, sym, ap, ◌∙◌}
use Rattle.std.specs.List.{filter}
use Rattle.scenario_text.specs.After.{after_line}
use Rattle.scenario_text.specs.Printing.{says_something, without_comments}
use Rattle.scenario_text.specs.Rules.{fault_of}
use Rattle.scenario_text.specs.Sofar.{Said}
use Rattle.scenario_text.specs.Text.{split}
use Rattle.scenario_text.specs.Whole.{Says, after_fault, broken, nothing_said, reading_from}
use Rattle.scenario_text.specs.declared.fault.LimitName.TheVariants.{Text}
use Rattle.scenario_text.specs.declared.fault.ScenarioFault.TheVariants.{Limit}
use Rattle.scenario_text.specs.declared.fault.TextRule.TheVariants.{Missing}
use Rattle.scenario_text.specs.declared.scenario.ScenarioParts.{ScenarioParts}
use Rattle.scenario_text.proofs.AllLines.{unbroken}
use Rattle.scenario_text.proofs.Counting.{with_count, fault_same, after_same, end_same}
use Rattle.scenario_text.proofs.Cutting.{kept_say}
use Rattle.scenario_text.proofs.EachLine.{IsKnown, IsSkipped, line_cases}
use Rattle.scenario_text.proofs.Reading.{HasFirst, two_parts}

pub pushed_first : (parts : List (List ℕ)) → HasFirst (parts ++ [] ∷ [])
pushed_first [] = record { first = []; more = []; is = refl }
pushed_first (part ∷ parts) = record { first = part; more = parts ++ [] ∷ []; is = refl }

-- a line that breaks no rule is read whatever the count
pub goes_with : (s : Said) (count : ℕ) (bytes : List ℕ) (rest : List (List ℕ)) → HasFirst rest → fault_of s bytes ≡ None
    → reading_from (with_count s count) (bytes ∷ rest) ≡ reading_from (with_count (after_line s bytes) (count + 1)) rest
goes_with s count bytes rest some good =
    two_parts (with_count s count) bytes rest some
    ∙ ap (λ fault. after_fault fault (count + 1) (reading_from (after_line (with_count s count) bytes) rest)) (fault_same s count bytes ∙ good)
    ∙ ap (λ t. reading_from t rest) (after_same s count bytes)

lines_say : (parts : List (List ℕ)) (s : Said) (count : ℕ) (p : ScenarioParts) → reading_from s parts ≡ Ok p
    → reading_from (with_count s count) (filter says_something parts ++ [] ∷ []) ≡ Ok p
lines_say [] s count p h = end_same s.place s count p h
lines_say ([] ∷ []) s count p h = end_same s.place s count p h
lines_say ((b ∷ bs) ∷ []) s count p h =
    let all : (fault_of s (b ∷ bs) ≡ None) × (broken (s.count + 1) Missing ≡ Ok p) = unbroken (fault_of s (b ∷ bs)) (s.count + 1) (broken (s.count + 1) Missing) p h in
    let never : broken (s.count + 1) Missing ≡ Ok p = all.1 in
    absurd (cc)
lines_say (bytes ∷ next ∷ more) s count p h = by (λ n. lines_say (next ∷ more) (after_line s bytes) n p all.1) (line_cases s bytes all.0)
  where
    all : (fault_of s bytes ≡ None) × (reading_from (after_line s bytes) (next ∷ more) ≡ Ok p)
    all = unbroken (fault_of s bytes) (s.count + 1) (reading_from (after_line s bytes) (next ∷ more)) p h

    rest : List (List ℕ)
    rest = filter says_something (next ∷ more)

    by : ((n : ℕ) → reading_from (with_count (after_line s bytes) n) (rest ++ [] ∷ []) ≡ Ok p) → IsSkipped s bytes ⊎ IsKnown s bytes
        → reading_from (with_count s count) (filter says_something (bytes ∷ next ∷ more) ++ [] ∷ []) ≡ Ok p
    by later (inl c) =
        ap (λ skipped. reading_from (with_count s count) (cond (not skipped) (bytes ∷ rest) rest ++ [] ∷ [])) c.skipped
        ∙ ap (λ (t : Said). reading_from (with_count t count) (rest ++ [] ∷ [])) (sym c.after) ∙ later count
    by later (inr k) =
        ap (λ skipped. reading_from (with_count s count) (cond (not skipped) (bytes ∷ rest) rest ++ [] ∷ [])) k.words
        ∙ goes_with s count bytes (rest ++ [] ∷ []) (pushed_first rest) all.0 ∙ later (count + 1)

pub comments_silent : (text : List ℕ) (p : ScenarioParts) → Says text p → Says (without_comments text) p
comments_silent text p says = kept_say says_something refl text p p says (lines_say (split 10 text) nothing_said 0 p (read (nat_lt 4194304 (length text)) says))
  where
    read : (long : Bool) → cond long (Err (Limit Text 4194305)) (reading_from nothing_said (split 10 text)) ≡ Ok p → reading_from nothing_said (split 10 text) ≡ Ok p
    read true h = absurd (cc)
    read false h = h
