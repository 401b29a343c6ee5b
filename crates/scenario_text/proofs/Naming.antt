-- A line that breaks no rule has a new name where it declares something.
use Rattle.std.proofs.Common.{◌≡◌, ℕ, ◌<◌, Bool, true, false, List, ◌∷◌, Option, None, Some, IsTrue, refl, true≢false, sym, ap, subst, cond, length, get_or, arith}
use Rattle.std.specs.Option.{is_none}
use Rattle.std.specs.List.{list_all}
use Rattle.scenario_text.specs.Text.{name_in}
use Rattle.scenario_text.specs.After.{count_line}
use Rattle.scenario_text.specs.Fitting.{IsNewName, IsNamed}
use Rattle.scenario_text.specs.Keywords.{keyword_in, slots_of, more_of}
use Rattle.scenario_text.specs.Naming.{meaning_of}
use Rattle.scenario_text.specs.Built.{is_built, is_built_line}
use Rattle.scenario_text.specs.Rules.{broken_by, fault_of, is_new}
use Rattle.scenario_text.specs.Slots.{is_formed}
use Rattle.scenario_text.specs.Sofar.{Said}
use Rattle.scenario_text.specs.Text.{Line, split, part_at, is_text_byte, is_skipped}
use Rattle.scenario_text.specs.declared.fault.TextRule.{TextRule}
use Rattle.scenario_text.specs.declared.fault.TextRule.TheVariants as rules
use Rattle.scenario_text.specs.declared.keyword.Keyword.{Keyword}
use Rattle.scenario_text.specs.declared.keyword.Keyword.TheVariants.{Eq, Pd, Cq, Qp, Connect, Thread, End, Post, Item, Recv, Receive, Poll, Drain, Schedule, Rounds}
use Rattle.scenario_text.specs.declared.slot.Slot.{Slot}
use Rattle.scenario_text.specs.declared.slot.Slot.TheVariants.{NewName}
use Rattle.scenario_text.proofs.Asked.{Passes, passes_rules, part_kept, unless}

none_there : {A : Type 0} (o : Option A) → IsTrue (is_none o) → o ≡ None
none_there None h = refl
none_there (Some x) h = absurd (true≢false (sym h))

-- the first place is a new name
named_first : (s : Said) (keyword : Keyword) (line : Line) (more : List Slot) → Passes s keyword line → slots_of keyword ≡ NewName ∷ more → IsNewName s line
named_first s keyword line more h is =
    let some : 0 < length (slots_of keyword) = omega (arith, ap (λ (xs : List Slot). length xs) is) in
    let first : get_or (slots_of keyword) 0 NewName ≡ NewName = ap (λ (xs : List Slot). get_or xs 0 NewName) is in (
      part_kept is_formed (slots_of keyword) (more_of keyword) line 0 NewName h.formed some first,
      none_there (meaning_of s.names (name_in line)) (part_kept (is_new s) (slots_of keyword) (more_of keyword) line 0 NewName h.new some first),
    )

pub named_by : (s : Said) (keyword : Keyword) (line : Line) → Passes s keyword line → IsNamed s keyword line
named_by s Eq line h = named_first s Eq line _ h refl
named_by s Pd line h = named_first s Pd line _ h refl
named_by s Cq line h = named_first s Cq line _ h refl
named_by s Qp line h = named_first s Qp line _ h refl
named_by s Connect line h = tt
named_by s Thread line h = named_first s Thread line _ h refl
named_by s End line h = tt
named_by s Post line h = tt
named_by s Item line h = tt
named_by s Recv line h = tt
named_by s Receive line h = tt
named_by s Poll line h = tt
named_by s Drain line h = tt
named_by s Schedule line h = tt
named_by s Rounds line h = tt

not_skipped : (skipped : Bool) (rest : Option TextRule) → skipped ≡ false → cond skipped None rest ≡ None → rest ≡ None
not_skipped true rest words h = absurd (true≢false words)
not_skipped false rest words h = h

-- a line with this word that breaks no rule
pub named_in : (s : Said) (bytes : List ℕ) (keyword : Keyword) → fault_of s bytes ≡ None → is_skipped bytes ≡ false → keyword_in s.place (part_at (split 32 bytes) 0) ≡ Some keyword
    → IsNamed (count_line s) keyword (split 32 bytes)
named_in s bytes keyword h words is =
    let line = split 32 bytes in
    let text = unless (list_all is_text_byte bytes) rules.Byte _ h in
    let rest = not_skipped (is_skipped bytes) _ words text.1 in
    let built = unless (is_built (count_line s) line) rules.NotBuilt (broken_by (count_line s) (keyword_in s.place (part_at line 0)) line) rest in
    named_by (count_line s) keyword line
    (passes_rules (count_line s) keyword line (subst (λ k. IsTrue (is_built_line (count_line s) k line)) is built.0) (subst (λ k. broken_by (count_line s) k line ≡ None) is built.1))
