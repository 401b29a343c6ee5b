-- Lines after the head add nothing to it.
use Rattle.std.proofs.Common.{◌≡◌, ℕ, ◌+◌, ◌≤◌, ◌⊎◌, inl, inr, Bool, false, true≢false, cond, List, [], ◌∷◌, bytes_eq, Option, None, Some, Ok, refl, sym, ap, ◌∙◌, subst, arith}
use Rattle.std.specs.List.{filter, list_any}
use Rattle.verbs_types.specs.declared.declaration.Lines.{Lines}
use Rattle.scenario_text.specs.After.{add_line, after_line, count_line}
use Rattle.scenario_text.specs.AfterCalls.{close_place, take_room_of}
use Rattle.scenario_text.specs.Bounds.{bounds_of, event_bounds, passed_after, passed_in_lines, passed_in_run, run_bounds, turns_bound}
use Rattle.scenario_text.specs.Keywords.{place_of}
use Rattle.scenario_text.specs.Printing.{head_words, is_head_line}
use Rattle.scenario_text.specs.Rules.{fault_of}
use Rattle.scenario_text.specs.Sofar.{Said}
use Rattle.scenario_text.specs.Text.{Line, split}
use Rattle.scenario_text.specs.Uses.{list_cq}
use Rattle.scenario_text.specs.Whole.{broken, end_in, parts_said, reading_from, within_limits}
use Rattle.scenario_text.specs.declared.fault.TextRule.TheVariants.{Missing}
use Rattle.scenario_text.specs.declared.keyword.Keyword.{Keyword}
use Rattle.scenario_text.specs.declared.keyword.Keyword.TheVariants.{Eq, Pd, Cq, Qp, Connect, Thread, End, Post, Item, Recv, Receive, Poll, Drain, Schedule, Rounds}
use Rattle.scenario_text.specs.declared.keyword.Section.TheVariants as sections
use Rattle.scenario_text.specs.declared.scenario.ScenarioParts.{ScenarioParts}
use Rattle.scenario_text.specs.declared.sofar.Place.{Place}
use Rattle.scenario_text.specs.declared.sofar.Place.TheVariants.{Outside, InThread, InPost, InRecv}
use Rattle.scenario_text.proofs.AllLines.{limits_end, unbroken}
use Rattle.scenario_text.proofs.Asked.{Passes}
use Rattle.scenario_text.proofs.EachLine.{IsKnown, IsSkipped, line_cases}
use Rattle.scenario_text.proofs.OutsideLines.{begins}
use Rattle.scenario_text.proofs.WholeHead.{skipped_head}
use Rattle.scenario_text.proofs.Within.{AllWithin, passed_none}
use Rattle.scenario_text.proofs.Words.{word_of}

-- the head is as before, and no limit was passed before one is passed
pub record SameHead (s t : Said) : Type 0 where
  pub lines : record t.lines { threads = s.lines.threads } ≡ s.lines
  pub passed : t.passed ≡ None → s.passed ≡ None
  pub later : 2 ≤ place_of s.section → 2 ≤ place_of t.section

same_then : (s t u : Said) → SameHead s t → SameHead t u → SameHead s u
same_then s t u a b = record {
  lines = ap (λ (d : Lines). record d { threads = s.lines.threads }) b.lines ∙ a.lines;
  passed = λ none. a.passed (b.passed none);
  later = λ late. b.later (a.later late);
}

-- the count of lines is no part of it
pub counted : (s t : Said) → SameHead (count_line s) t → SameHead s t
counted s t h = record { lines = h.lines; passed = h.passed; later = h.later }

closed_same : (place : Place) (s : Said) → SameHead s (close_place place s)
closed_same Outside s = record { lines = refl; passed = λ none. none; later = λ late. late }
closed_same InThread s = record { lines = refl; passed = λ none. none; later = λ late. late }
closed_same (InPost qp) s = record { lines = refl; passed = λ none. none; later = λ late. late }
closed_same (InRecv qp) s = record { lines = refl; passed = λ none. none; later = λ late. late }

roomed_same : (cq : Option ℕ) (s : Said) → SameHead s (take_room_of cq s)
roomed_same None s = record { lines = refl; passed = λ none. none; later = λ late. late }
roomed_same (Some cq) s = record { lines = refl; passed = λ none. none; later = λ late. late }

-- the word begins no line of the head
abbrev pub IsOther : Keyword → Type 0
IsOther keyword = list_any (bytes_eq (word_of keyword)) head_words ≡ false

module _ (line : Line) (s : Said) where
  unpassed : (keyword : Keyword) → passed_after s.passed (bounds_of s keyword line) ≡ None → s.passed ≡ None
  unpassed keyword none = (passed_none s.passed (bounds_of s keyword line) none).0

  noted : (keyword : Keyword) → SameHead s (record s { passed = passed_after s.passed (bounds_of s keyword line) })
  noted keyword = record { lines = refl; passed = unpassed keyword; later = λ late. late }

  -- a call or the end of a thread, after the list before it is closed
  closed : (keyword : Keyword) (t : Said) → SameHead (close_place s.place s) t → SameHead s t
  closed keyword t h = same_then s (close_place s.place s) t (closed_same s.place s) h

module _ (line : Line) (s : Said) where
  pub other_same : (keyword : Keyword) → IsOther keyword → SameHead s (add_line keyword line s)
  other_same Eq h = absurd (true≢false h)
  other_same Pd h = absurd (true≢false h)
  other_same Cq h = absurd (true≢false h)
  other_same Qp h = absurd (true≢false h)
  other_same Connect h = absurd (true≢false h)
  other_same Thread h = record { lines = refl; passed = unpassed line s Thread; later = λ late. omega arith }
  other_same End h = closed line s End (add_line End line s) (record { lines = refl; passed = unpassed line (close_place s.place s) End; later = λ late. late })
  other_same Post h = closed line s Post (add_line Post line s) (record { lines = refl; passed = unpassed line (close_place s.place s) Post; later = λ late. late })
  other_same Recv h = closed line s Recv (add_line Recv line s) (record { lines = refl; passed = unpassed line (close_place s.place s) Recv; later = λ late. late })
  other_same Poll h = closed line s Poll (add_line Poll line s) (record { lines = refl; passed = unpassed line (close_place s.place s) Poll; later = λ late. late })
  other_same Drain h = closed line s Drain (add_line Drain line s) (record { lines = refl; passed = unpassed line (close_place s.place s) Drain; later = λ late. late })
  other_same Item h =
      let now = record s { passed = passed_after s.passed (bounds_of s Item line) } in
      let roomed = roomed_same (list_cq s) now in
      same_then s now (add_line Item line s) (noted line s Item) (record { lines = roomed.lines; passed = roomed.passed; later = roomed.later })
  other_same Receive h =
      let now = record s { passed = passed_after s.passed (bounds_of s Receive line) } in
      let roomed = roomed_same (list_cq s) now in
      same_then s now (add_line Receive line s) (noted line s Receive) (record { lines = roomed.lines; passed = roomed.passed; later = roomed.later })
  other_same Schedule h = record { lines = refl; passed = unpassed line s Schedule; later = λ late. omega arith }
  other_same Rounds h = record { lines = refl; passed = unpassed line s Rounds; later = λ late. omega arith }

  -- no line of the head stands after those of threads
  pub late_other : (keyword : Keyword) → Passes s keyword line → 2 ≤ place_of s.section → IsOther keyword
  late_other Eq ok late = let b = begins s Eq sections.Objects line refl refl refl refl ok in absurd (omega (arith, b.from, late))
  late_other Pd ok late = let b = begins s Pd sections.Objects line refl refl refl refl ok in absurd (omega (arith, b.from, late))
  late_other Cq ok late = let b = begins s Cq sections.Objects line refl refl refl refl ok in absurd (omega (arith, b.from, late))
  late_other Qp ok late = let b = begins s Qp sections.Objects line refl refl refl refl ok in absurd (omega (arith, b.from, late))
  late_other Connect ok late = let b = begins s Connect sections.Connects line refl refl refl refl ok in absurd (omega (arith, b.from, late))
  late_other Thread ok late = refl
  late_other End ok late = refl
  late_other Post ok late = refl
  late_other Item ok late = refl
  late_other Recv ok late = refl
  late_other Receive ok late = refl
  late_other Poll ok late = refl
  late_other Drain ok late = refl
  late_other Schedule ok late = refl
  late_other Rounds ok late = refl

-- the text ends with this scenario, whose head is said here already
pub record EndsWith (s : Said) (p : ScenarioParts) : Type 0 where
  pub lines : record p.lines { threads = s.lines.threads } ≡ s.lines
  pub unpassed : s.passed ≡ None
  pub events : passed_after None (event_bounds p.lines 0 p.lines.eqs) ≡ None
  pub run : AllWithin (run_bounds p)

pub end_ends : (place : Place) (s : Said) (p : ScenarioParts) → end_in place s ≡ Ok p → EndsWith s p
end_ends Outside s p h =
    let lines = limits_end (passed_in_lines s) (within_limits (passed_in_run (parts_said s)) (Ok (parts_said s))) p h in
    let run = limits_end (passed_in_run (parts_said s)) (Ok (parts_said s)) p lines.1 in
    let same : parts_said s ≡ p = cc in
    let turns = passed_none (passed_after s.passed (event_bounds s.lines 0 s.lines.eqs)) (turns_bound s.lines s.plan ∷ []) lines.0 in
    let none : s.passed ≡ None = (passed_none s.passed (event_bounds s.lines 0 s.lines.eqs) turns.0).0 in
    subst (EndsWith s) same (record {
      lines = refl;
      unpassed = none;
      events = ap (λ o. passed_after o (event_bounds s.lines 0 s.lines.eqs)) (sym none) ∙ turns.0;
      run = (passed_none None (run_bounds (parts_said s)) run.0).1;
    })
end_ends InThread s p h = absurd (cc)
end_ends (InPost qp) s p h = absurd (cc)
end_ends (InRecv qp) s p h = absurd (cc)

pub ends_before : (s t : Said) (p : ScenarioParts) → SameHead s t → EndsWith t p → EndsWith s p
ends_before s t p same h = record {
  lines = ap (λ (d : Lines). record d { threads = s.lines.threads }) h.lines ∙ same.lines;
  unpassed = same.passed h.unpassed;
  events = h.events;
  run = h.run;
}

-- what comes after a line of a thread or of the plan
pub record Ends (s : Said) (parts : List (List ℕ)) (p : ScenarioParts) : Type 0 where
  pub none : filter is_head_line parts ≡ []
  pub ends : EndsWith s p

pub lines_end : (parts : List (List ℕ)) (s : Said) (p : ScenarioParts) → reading_from s parts ≡ Ok p → 2 ≤ place_of s.section → Ends s parts p
lines_end [] s p h late = record { none = refl; ends = end_ends s.place s p h }
lines_end ([] ∷ []) s p h late = record { none = refl; ends = end_ends s.place s p h }
lines_end ((b ∷ bs) ∷ []) s p h late =
    let all : (fault_of s (b ∷ bs) ≡ None) × (broken (s.count + 1) Missing ≡ Ok p) = unbroken (fault_of s (b ∷ bs)) (s.count + 1) (broken (s.count + 1) Missing) p h in
    let never : broken (s.count + 1) Missing ≡ Ok p = all.1 in
    absurd (cc)
lines_end (bytes ∷ next ∷ more) s p h late = by (λ (soon : 2 ≤ place_of (after_line s bytes).section). lines_end (next ∷ more) (after_line s bytes) p all.1 soon) (line_cases s bytes all.0)
  where
    all : (fault_of s bytes ≡ None) × (reading_from (after_line s bytes) (next ∷ more) ≡ Ok p)
    all = unbroken (fault_of s bytes) (s.count + 1) (reading_from (after_line s bytes) (next ∷ more)) p h

    ends : (head : Bool) → is_head_line bytes ≡ head → head ≡ false → SameHead s (after_line s bytes) → Ends (after_line s bytes) (next ∷ more) p → Ends s (bytes ∷ next ∷ more) p
    ends head is other same e = record {
      none = ap (λ b. cond b (bytes ∷ filter is_head_line (next ∷ more)) (filter is_head_line (next ∷ more))) (is ∙ other) ∙ e.none;
      ends = ends_before s (after_line s bytes) p same e.ends;
    }

    by : (2 ≤ place_of (after_line s bytes).section → Ends (after_line s bytes) (next ∷ more) p) → IsSkipped s bytes ⊎ IsKnown s bytes → Ends s (bytes ∷ next ∷ more) p
    by later (inl c) =
        let same : SameHead s (after_line s bytes) = subst (SameHead s) (sym c.after) (record { lines = refl; passed = λ none. none; later = λ soon. soon }) in
        ends (is_head_line bytes) refl (skipped_head bytes c.skipped) same (later (same.later late))
    by later (inr k) =
        let other : IsOther k.keyword = late_other (split 32 bytes) (count_line s) k.keyword k.passes late in
        let same : SameHead s (after_line s bytes) = subst (SameHead s) (sym k.after) (counted s (add_line k.keyword (split 32 bytes) (count_line s)) (other_same (split 32 bytes) (count_line s) k.keyword other)) in
        ends (is_head_line bytes) refl (ap (λ w. list_any (bytes_eq w) head_words) k.word ∙ other) same (later (same.later late))
