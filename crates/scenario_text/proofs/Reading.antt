-- A text is read line by line.
use Rattle.std.proofs.Common.{◌≡◌, ℕ, ◌+◌, ◌<◌, ◌==◌, Bool, true, false, cond, List, [], ◌∷◌, length, Option, Some, None, Ok, Err, IfOk, IfErr, Bor, MatchOption, ◌≤◌, nat_lt, refl, sym, ap, ◌∙◌, subst, arith}
use Rattle.std.specs.Option.{option_copied}
use Rattle.std.proofs.lemmas.Bool.Decides.{nat_tests}
use Rattle.std.specs.List.{onto_first}
use Rattle.scenario_text.specs.Rules.{fault_of}
use Rattle.scenario_text.specs.After.{after_line}
use Rattle.scenario_text.specs.Sofar.{Said, IsSmall}
use Rattle.scenario_text.specs.Text.{split, parts}
use Rattle.scenario_text.specs.Whole.{Answer, after_fault, broken, end_of, nothing_said, reading, reading_from, Says, HasFault}
use Rattle.scenario_text.specs.declared.fault.LimitName.TheVariants.{Text}
use Rattle.scenario_text.specs.declared.fault.ScenarioFault.TheVariants.{Malformed, Limit, NoMemory}
use Rattle.scenario_text.specs.declared.fault.TextRule.{TextRule}
use Rattle.scenario_text.specs.declared.fault.TextRule.TheVariants.{Missing}
use Rattle.scenario_text.proofs.AllLines.{nothing_kept}
use Rattle.scenario_text.proofs.ByLine.{after_kept}
use Rattle.scenario_text.proofs.Small.{small_after, count_after}
use Rattle.scenario_text.proofs.Standing.{Kept}

-- there is a first part
pub record HasFirst (parts : List (List ℕ)) : Type 0 where
  pub first : List ℕ
  pub more : List (List ℕ)
  pub is : parts ≡ first ∷ more

by_first : (separator b : ℕ) (bs : List ℕ) (ends : Bool) (parts : List (List ℕ)) → HasFirst parts → HasFirst (cond ends ([] ∷ parts) (onto_first b parts))
by_first separator b bs true parts h = record { first = []; more = parts; is = refl }
by_first separator b bs false [] h = absurd (none h.first h.more h.is)
  where
    none : (first : List ℕ) (more : List (List ℕ)) → [] ≡ first ∷ more → ⊥
    none first more e = cc
by_first separator b bs false (part ∷ parts) h = record { first = b ∷ part; more = parts; is = refl }

pub first_part : (separator : ℕ) (bytes : List ℕ) → HasFirst (split separator bytes)
first_part separator [] = record { first = []; more = []; is = refl }
first_part separator (b ∷ bs) = by_first separator b bs (b == separator) (split separator bs) (first_part separator bs)

-- nothing is left
pub at_end : (s : Said) (rest : List ℕ) → length rest ≡ 0 → reading_from s (split 10 rest) ≡ end_of s
at_end s [] h = refl
at_end s (b ∷ bs) h = absurd (omega (arith, h))

pub two_parts : (s : Said) (line : List ℕ) (parts : List (List ℕ)) → HasFirst parts → reading_from s (line ∷ parts) ≡ after_fault (fault_of s line) (s.count + 1) (reading_from (after_line s line) parts)
two_parts s line [] h = absurd (none h.first h.more h.is)
  where
    none : (first : List ℕ) (more : List (List ℕ)) → [] ≡ first ∷ more → ⊥
    none first more e = cc
two_parts s [] (next ∷ more) h = refl
two_parts s (b ∷ bs) (next ∷ more) h = refl

-- a line with its end breaks no rule
pub goes_on : (s : Said) (line rest : List ℕ) (parts : List (List ℕ)) → parts ≡ line ∷ split 10 rest → fault_of s line ≡ None → reading_from s parts ≡ reading_from (after_line s line) (split 10 rest)
goes_on s line rest parts is good =
    ap (reading_from s) is ∙ two_parts s line (split 10 rest) (first_part 10 rest) ∙ ap (λ fault. after_fault fault (s.count + 1) (reading_from (after_line s line) (split 10 rest))) good

-- a line with its end breaks a rule
pub stops_at : (s : Said) (line rest : List ℕ) (why : TextRule) (parts : List (List ℕ)) → parts ≡ line ∷ split 10 rest → fault_of s line ≡ Some why → reading_from s parts ≡ broken (s.count + 1) why
stops_at s line rest why parts is bad =
    ap (reading_from s) is ∙ two_parts s line (split 10 rest) (first_part 10 rest) ∙ ap (λ fault. after_fault fault (s.count + 1) (reading_from (after_line s line) (split 10 rest))) bad

-- the last line has no end, and breaks a rule or none
pub last_stops : (s : Said) (line : List ℕ) (why : TextRule) (parts : List (List ℕ)) → 0 < length line → parts ≡ line ∷ [] → fault_of s line ≡ Some why → reading_from s parts ≡ broken (s.count + 1) why
last_stops s [] why parts some is bad = absurd (omega (arith, some))
last_stops s (b ∷ bs) why parts some is bad = ap (reading_from s) is ∙ ap (λ fault. after_fault fault (s.count + 1) (broken (s.count + 1) Missing)) bad

pub last_unended : (s : Said) (line : List ℕ) (parts : List (List ℕ)) → 0 < length line → parts ≡ line ∷ [] → fault_of s line ≡ None → reading_from s parts ≡ broken (s.count + 1) Missing
last_unended s [] parts some is good = absurd (omega (arith, some))
last_unended s (b ∷ bs) parts some is good = ap (reading_from s) is ∙ ap (λ fault. after_fault fault (s.count + 1) (broken (s.count + 1) Missing)) good

-- so far the lines say what the text says and keep what holds, and what is left of it says the rest
pub record Reads (text : List ℕ) (s : Said) (rest : List ℕ) : Type 0 where
  pub kept : Kept s
  pub small : IsSmall s
  pub few : s.count + length rest ≤ 4194304
  pub says : reading_from s (split 10 rest) ≡ reading text

short : (long : Bool) (text : List ℕ) → nat_lt 4194304 (length text) ≡ long → length text ≤ 4194304 → reading_from nothing_said (split 10 text) ≡ (cond long (Err (Limit Text 4194305)) (reading_from nothing_said (split 10 text)))
short false text e h = refl
short true text e h = absurd (grind (arith, nat_tests))

pub reads_first : (text : List ℕ) (s : Said) → s ≡ nothing_said → length text ≤ 4194304 → Reads text s text
reads_first text s is few = subst (λ (t : Said). Reads text t text) (sym is) (record {
  kept = nothing_kept;
  small = record { count = omega arith; eqs = omega arith; pds = omega arith; cqs = omega arith; qps = omega arith; threads = omega arith };
  few = omega (arith, few);
  says = short (nat_lt 4194304 (length text)) text refl few;
})

pub reads_next : (text rest line after : List ℕ) (s now : Said) → Reads text s rest → fault_of s line ≡ None → split 10 rest ≡ line ∷ split 10 after → length after < length rest → now ≡ after_line s line
    → Reads text now after
reads_next text rest line after s now h good is shorter next = subst (λ (t : Said). Reads text t after) (sym next) (record {
  kept = after_kept s line good h.kept;
  small = small_after s line (omega (arith, h.few, shorter)) h.small;
  few = omega (arith, h.few, shorter, count_after s line);
  says = sym (goes_on s line after (split 10 rest) is good) ∙ h.says;
})

-- a line of the text breaks a rule
pub breaks_at : (text rest line : List ℕ) (left : Option (Bor (List ℕ))) (s : Said) (why : TextRule) → Reads text s rest → 0 < length rest → split 10 rest ≡ line ∷ parts 10 (option_copied left)
    → MatchOption left (line ≡ rest) (λ after. length after.now < length rest) → fault_of s line ≡ Some why → reading text ≡ Err (Malformed (s.count + 1) why)
breaks_at text rest line (Some after) s why h some is whole bad = sym h.says ∙ stops_at s line after.now why (split 10 rest) is bad
breaks_at text rest line None s why h some is whole bad = sym h.says ∙ last_stops s line why (split 10 rest) (subst (λ (xs : List ℕ). 0 < length xs) (sym whole) some) is bad

-- the last line has no end
pub unended_at : (text rest line : List ℕ) (s : Said) → Reads text s rest → 0 < length rest → split 10 rest ≡ line ∷ [] → line ≡ rest → fault_of s line ≡ None → reading text ≡ Err (Malformed (s.count + 1) Missing)
unended_at text rest line s h some is whole good = sym h.says ∙ last_unended s line (split 10 rest) (subst (λ (xs : List ℕ). 0 < length xs) (sym whole) some) is good

-- all lines were read
pub ends_at : (text rest : List ℕ) (s : Said) → Reads text s rest → length rest ≡ 0 → end_of s ≡ reading text
ends_at text rest s h none = sym (at_end s rest none) ∙ h.says

pub shorter_by : (left : Option (Bor (List ℕ))) (after : Bor (List ℕ)) (line rest : List ℕ) → left ≡ Some after → MatchOption left (line ≡ rest) (λ a. length a.now < length rest) → length after.now < length rest
shorter_by left after line rest is whole = subst (λ l. MatchOption l (line ≡ rest) (λ a. length a.now < length rest)) is whole

pub whole_by : (left : Option (Bor (List ℕ))) (line rest : List ℕ) → left ≡ None → MatchOption left (line ≡ rest) (λ a. length a.now < length rest) → line ≡ rest
whole_by left line rest is whole = subst (λ l. MatchOption l (line ≡ rest) (λ a. length a.now < length rest)) is whole

pub some_left : (empty : Bool) (rest : List ℕ) → empty ≡ (length rest == 0) → empty ≡ false → 0 < length rest
some_left empty rest is no_end = grind (arith, nat_tests)

pub none_left : (empty : Bool) (rest : List ℕ) → empty ≡ (length rest == 0) → empty ≡ true → length rest ≡ 0
none_left empty rest is at_end = grind (arith, nat_tests)

-- what all lines say is what the text says
pub found_says : (r : Answer) (s : Said) (text : List ℕ) → end_of s ≡ reading text → IfOk r (λ parts. end_of s ≡ Ok parts) → IfOk r (Says text)
found_says (Ok parts) s text e h = sym e ∙ h
found_says (Err fault) s text e h = h

pub fault_says : (r : Answer) (s : Said) (text : List ℕ) → end_of s ≡ reading text → IfErr r (λ fault. end_of s ≡ Err fault) → IfErr r (HasFault text)
fault_says (Ok parts) s text e h = h
fault_says (Err (Malformed line why)) s text e h = sym e ∙ h
fault_says (Err (Limit name value)) s text e h = sym e ∙ h
fault_says (Err NoMemory) s text e h = tt
