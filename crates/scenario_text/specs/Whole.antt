-- What a whole text says.
use Rattle.std.specs.Prelude.{ℕ, ◌≡◌, ◌+◌, IsTrue, List, [], ◌∷◌, length, nat_lt, Option, None, Some, Result, Ok, Err, ⊤, if◌then◌else◌}
use Rattle.verbs_types.specs.Lines.{is_declared}
use Rattle.scenario_text.specs.Text.{split}
use Rattle.scenario_text.specs.Naming.{taken_names}
use Rattle.scenario_text.specs.Sofar.{Said}
use Rattle.scenario_text.specs.Rules.{fault_of}
use Rattle.scenario_text.specs.After.{after_line}
use Rattle.scenario_text.specs.Bounds.{passed_in_lines, passed_in_run}
use Rattle.scenario_text.specs.declared.fault.LimitName.TheVariants.{Text}
use Rattle.scenario_text.specs.declared.fault.ScenarioFault.{ScenarioFault}
use Rattle.scenario_text.specs.declared.fault.ScenarioFault.TheVariants.{Malformed, Limit, NoMemory}
use Rattle.scenario_text.specs.declared.fault.TextRule.{TextRule}
use Rattle.scenario_text.specs.declared.fault.TextRule.TheVariants.{Missing}
use Rattle.scenario_text.specs.declared.keyword.Section.TheVariants.{Objects}
use Rattle.scenario_text.specs.declared.scenario.Plan.TheVariants.{Idle}
use Rattle.scenario_text.specs.declared.scenario.ScenarioParts.{ScenarioParts}
use Rattle.scenario_text.specs.declared.sofar.Passed.{Passed}
use Rattle.scenario_text.specs.declared.sofar.Place.{Place}
use Rattle.scenario_text.specs.declared.sofar.Place.TheVariants.{Outside}

-- a scenario, or why there is none
abbrev pub Answer : Type 0
Answer = Result ScenarioParts ScenarioFault

-- before the first line
abbrev pub nothing_said : Said
nothing_said = record {
  count = 0;
  section = Objects;
  names = taken_names;
  lines = record { eqs = []; pds = []; cqs = []; qps = []; order = []; connects = []; threads = [] };
  pairs = [];
  queues = [];
  programs = [];
  place = Outside;
  calls = [];
  requests = [];
  receives = [];
  plan = Idle;
  passed = None;
}

abbrev pub parts_said : Said → ScenarioParts
parts_said s = record { lines = s.lines; programs = s.programs; plan = s.plan }

-- no limit is passed, or this one is the first
abbrev pub within_limits : Option Passed → Answer → Answer
within_limits (Some p) rest = Err (Limit p.name p.value)
within_limits None rest = rest

-- the limits of the lines come before those of the run
abbrev pub all_within : Said → ScenarioParts → Answer
all_within s p = within_limits (passed_in_lines s) (within_limits (passed_in_run p) (Ok p))

-- what all lines say, where the text ends in this place
abbrev pub end_in : Place → Said → Answer
end_in Outside s = all_within s (parts_said s)
end_in _ s = Err (Malformed s.count Missing)

abbrev pub end_of : Said → Answer
end_of s = end_in s.place s

-- a text that ends here and passes no limit declares what it names
abbrev pub EndsDeclared : Said → Type 0
EndsDeclared s = s.place ≡ Outside → passed_in_lines s ≡ None → IsTrue (is_declared s.lines)

abbrev pub broken : ℕ → TextRule → Answer
broken line why = Err (Malformed line why)

-- the line breaks a rule, or what comes after it says the rest
abbrev pub after_fault : Option TextRule → ℕ → Answer → Answer
after_fault (Some why) line rest = broken line why
after_fault None line rest = rest

-- what is left of a text, part by part: what stands after the last line end is empty, or a line without its end
abbrev pub reading_from : Said → List (List ℕ) → Answer
reading_from s [] = end_of s
reading_from s ([] ∷ []) = end_of s
reading_from s ((b ∷ bs) ∷ []) = after_fault (fault_of s (b ∷ bs)) (s.count + 1) (broken (s.count + 1) Missing)
reading_from s (line ∷ next ∷ more) = after_fault (fault_of s line) (s.count + 1) (reading_from (after_line s line) (next ∷ more))

-- a scenario, or the first line that breaks a rule, or the first limit that is passed
abbrev pub reading : List ℕ → Answer
reading text = if nat_lt 4194304 (length text) then Err (Limit Text 4194305) else reading_from nothing_said (split 10 text)

-- the text says the scenario
abbrev pub Says : List ℕ → ScenarioParts → Type 0
Says text s = reading text ≡ Ok s

-- the scenario is what some text says
abbrev pub IsScenario : ScenarioParts → Type 0
IsScenario s = (text : List ℕ) × Says text s

-- the text has this fault; want of memory may come with any text
abbrev pub HasFault : List ℕ → ScenarioFault → Type 0
HasFault text NoMemory = ⊤
HasFault text fault = reading text ≡ Err fault
