-- What a whole text says can run.
use Rattle.std.proofs.Common.{◌≡◌, ℕ, ◌+◌, Bool, true, false, List, [], ◌∷◌, length, nat_lt, cond, Option, None, Some, Ok, Err, refl, subst, arith}
use Rattle.std.proofs.lemmas.List.Elements.{All-nil, All-from_recursion}
use Rattle.std.proofs.lemmas.Option.{none-some}
use Rattle.scenario_text.specs.After.{after_line}
use Rattle.scenario_text.specs.Bounds.{passed_in_lines, passed_in_run}
use Rattle.scenario_text.specs.Calls.{IsProgram}
use Rattle.scenario_text.specs.Naming.{Entry, taken_names}
use Rattle.scenario_text.specs.Rules.{fault_of}
use Rattle.scenario_text.specs.Running.{CanRun, IsActorOf}
use Rattle.scenario_text.specs.Sofar.{Said}
use Rattle.scenario_text.specs.Text.{split}
use Rattle.scenario_text.specs.Whole.{Answer, Says, nothing_said, parts_said, within_limits, end_in, after_fault, broken, reading_from}
use Rattle.scenario_text.specs.declared.fault.LimitName.TheVariants.{Text}
use Rattle.scenario_text.specs.declared.fault.ScenarioFault.TheVariants.{Limit}
use Rattle.scenario_text.specs.declared.fault.TextRule.{TextRule}
use Rattle.scenario_text.specs.declared.fault.TextRule.TheVariants.{Missing}
use Rattle.scenario_text.specs.declared.names.Meaning.TheVariants.{Actor}
use Rattle.scenario_text.specs.declared.scenario.ScenarioParts.{ScenarioParts}
use Rattle.scenario_text.specs.declared.sofar.Passed.{Passed}
use Rattle.scenario_text.specs.declared.sofar.Place.{Place}
use Rattle.scenario_text.specs.declared.sofar.Place.TheVariants.{Outside, InThread, InPost, InRecv}
use Rattle.scenario_text.proofs.ByLine.{after_kept}
use Rattle.scenario_text.proofs.Ends.{can_run}
use Rattle.scenario_text.proofs.Standing.{AllThere, AreFilled, AreHeld, IsThere, Kept}

-- an end without a fault is one outside threads, with no limit passed
pub limits_end : (o : Option Passed) (rest : Answer) (p : ScenarioParts) → within_limits o rest ≡ Ok p → (o ≡ None) × (rest ≡ Ok p)
limits_end (Some passed) rest p h = absurd (cc)
limits_end None rest p h = (refl, h)

end_runs : (s : Said) (p : ScenarioParts) (place : Place) → s.place ≡ place → end_in place s ≡ Ok p → Kept s → CanRun p
end_runs s p Outside is h kept =
    let lines = limits_end (passed_in_lines s) (within_limits (passed_in_run (parts_said s)) (Ok (parts_said s))) p h in
    let run = limits_end (passed_in_run (parts_said s)) (Ok (parts_said s)) p lines.1 in
    let same : parts_said s ≡ p = cc in
    subst CanRun same (can_run s is lines.0 run.0 kept)
end_runs s p InThread is h kept = absurd (cc)
end_runs s p (InPost qp) is h kept = absurd (cc)
end_runs s p (InRecv qp) is h kept = absurd (cc)

pub unbroken : (o : Option TextRule) (line : ℕ) (rest : Answer) (p : ScenarioParts) → after_fault o line rest ≡ Ok p → (o ≡ None) × (rest ≡ Ok p)
unbroken (Some why) line rest p h = absurd (cc)
unbroken None line rest p h = (refl, h)

lines_run : (parts : List (List ℕ)) (s : Said) (p : ScenarioParts) → reading_from s parts ≡ Ok p → Kept s → CanRun p
lines_run [] s p h kept = end_runs s p s.place refl h kept
lines_run ([] ∷ []) s p h kept = end_runs s p s.place refl h kept
lines_run ((b ∷ bs) ∷ []) s p h kept =
    let all : (fault_of s (b ∷ bs) ≡ None) × (broken (s.count + 1) Missing ≡ Ok p) = unbroken (fault_of s (b ∷ bs)) (s.count + 1) (broken (s.count + 1) Missing) p h in
    let never : broken (s.count + 1) Missing ≡ Ok p = all.1 in
    absurd (cc)
lines_run (line ∷ next ∷ more) s p h kept =
    let all : (fault_of s line ≡ None) × (reading_from (after_line s line) (next ∷ more) ≡ Ok p) = unbroken (fault_of s line) (s.count + 1) (reading_from (after_line s line) (next ∷ more)) p h in
    lines_run (next ∷ more) (after_line s line) p all.1 (after_kept s line all.0 kept)

no_thread_held : AreHeld [] [] []
no_thread_held k d below = absurd (omega (arith, below))

no_queue_filled : AreFilled nothing_said.lines [] []
no_queue_filled c l there = absurd (none-some l there)

taken_there : AllThere nothing_said.lines taken_names
taken_there = let dev : IsThere nothing_said.lines (Actor 0) = omega arith in All-from_recursion (λ (e : Entry). IsThere nothing_said.lines e.meaning) taken_names (dev, (tt, (tt, tt)))

-- before the first line
pub nothing_kept : Kept nothing_said
nothing_kept none = record {
  declared = record {
    few = refl;
    turn = refl;
    eqs = refl;
    cqs = refl;
    qps = refl;
    connects = refl;
    threads = omega arith;
  };
  named = taken_there;
  pairs = refl;
  queues = refl;
  finished = All-nil (IsProgram nothing_said.lines);
  opened = (refl, refl, refl);
  paired = refl;
  held = no_thread_held;
  filled = no_queue_filled;
  planned = All-nil (IsActorOf 0);
  early = λ soon. refl;
}

-- what a text says can run
pub says_runs : (text : List ℕ) (p : ScenarioParts) → Says text p → CanRun p
says_runs text p h = by (nat_lt 4194304 (length text)) h
  where
    by : (long : Bool) → cond long (Err (Limit Text 4194305)) (reading_from nothing_said (split 10 text)) ≡ Ok p → CanRun p
    by true e = absurd (cc)
    by false e = lines_run (split 10 text) nothing_said p e nothing_kept
