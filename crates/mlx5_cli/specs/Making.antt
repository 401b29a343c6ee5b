-- What a command makes of its input, and why it stops before it writes.
use Rattle.std.specs.Prelude.{ℕ, ◌≡◌, List, Some}
use Rattle.byte_streams.specs.Count.{Rose}
use Rattle.byte_streams.specs.Source.{SourceState}
use Rattle.scenario_text.specs.declared.fault.ScenarioFault.{ScenarioFault}
use Rattle.scenario_text.specs.declared.fault.ScenarioFault.TheVariants.{Malformed as MalformedText, Limit as PastLimit}
use Rattle.mlx5_cli.specs.declared.command.Command.{Command}
use Rattle.mlx5_cli.specs.declared.command.Command.TheVariants.{Run, Layout}
use Rattle.mlx5_cli.specs.declared.status.Status.{Status}
use Rattle.mlx5_cli.specs.declared.status.Status.TheVariants.{Malformed, Limit, ReadFault, NoMemory}
use Rattle.scenario_text.specs.Whole.{HasFault}
use Rattle.mlx5_cli.specs.Grammar.{OfGrammar}
use Rattle.mlx5_cli.specs.RunText.{IsRunOf}
use Rattle.mlx5_cli.specs.Layouts.{layout_lines}
use Rattle.mlx5_cli.specs.Reading.{ReadsWhole, ReadsText}

-- the text was read, and this is the text of a run of its scenario
pub record MakesRun (old new : SourceState) (output : List ℕ) : Type 0 where
  pub text : List ℕ
  pub reads : ReadsWhole old new text
  pub runs : IsRunOf text output

-- the whole output of a command
abbrev pub Makes : Command → SourceState → SourceState → List ℕ → Type 0
Makes Run old new output = MakesRun old new output
Makes (Layout name) old new output = (new ≡ old) × (output ≡ layout_lines name)

-- what was read is refused with this fault
pub record ReadsFaulty (old new : SourceState) (fault : ScenarioFault) : Type 0 where
  pub text : List ℕ
  pub reads : ReadsText old new text
  pub refused : HasFault text fault

-- why `run` stops before it writes
abbrev pub StopsRun : SourceState → SourceState → Status → Type 0
StopsRun old new (Malformed line rule) = ReadsFaulty old new (MalformedText line rule)
StopsRun old new (Limit name value) = ReadsFaulty old new (PastLimit name value)
StopsRun old new ReadFault = Rose old.faults new.faults
StopsRun old new NoMemory = Unit {0}
StopsRun old new _ = ⊥

-- why a command stops before it writes
abbrev pub Stops : Command → SourceState → SourceState → Status → Type 0
Stops Run old new status = StopsRun old new status
Stops (Layout name) old new status = (status ≡ NoMemory) × (new ≡ old)

-- the source told a text of the grammar, and no read failed
pub record GivesScenario (old new : SourceState) : Type 0 where
  pub input : List ℕ
  pub told : old.left ≡ Some input
  pub good : OfGrammar input
  pub no_fault : ¬ Rose old.faults new.faults

-- the source gave what a command wants of it
abbrev pub GivesInput : Command → SourceState → SourceState → Type 0
GivesInput Run old new = GivesScenario old new
GivesInput (Layout name) old new = Unit {0}
