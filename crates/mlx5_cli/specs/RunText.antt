-- The text of a run of a scenario.
use Rattle.std.specs.Prelude.{ℕ, ◌≡◌, ◌++◌, List, length}
use Rattle.scenario_text.specs.declared.scenario.ScenarioParts.{ScenarioParts}
use Rattle.scenario_text.specs.Heads.{head_text}
use Rattle.scenario_text.specs.Limits.{turns_of}
use Rattle.scenario_text.specs.Printing.{head_of}
use Rattle.scenario_text.specs.Whole.{Says}
use Rattle.world_core.specs.declared.outcome.Outcome.{Outcome}
use Rattle.world_core.specs.Outcome.{IsOutcome}
use Rattle.transcript_text.specs.History.{history_text}
use Rattle.transcript_text.specs.Trace.{trace_text}

-- the history and then the trace of what the turns of the plan leave
pub record IsRunText (s : ScenarioParts) (text : List ℕ) : Type 0 where
  pub outcome : Outcome
  pub is_outcome : IsOutcome s (turns_of (length s.lines.threads) s.plan) outcome
  pub printed : text ≡ history_text s.lines outcome.history ++ trace_text s.lines outcome.trace.items outcome.marks.items

-- the input spells a scenario, and this is the text of a run of it, whose head is the declaration and connect lines of the input
pub record IsRunOf (input text : List ℕ) : Type 0 where
  pub scenario : ScenarioParts
  pub says : Says input scenario
  pub runs : IsRunText scenario text
  pub same_lines : head_text scenario.lines ≡ head_of input
