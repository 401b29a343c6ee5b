-- The texts that spell a scenario.
use Rattle.std.specs.Prelude.{ℕ, List}
use Rattle.scenario_text.specs.declared.scenario.ScenarioParts.{ScenarioParts}
use Rattle.scenario_text.specs.Whole.{Says}

-- the text is of the grammar that is built so far, and within the limits: it spells a scenario
abbrev pub OfGrammar : List ℕ → Type 0
OfGrammar text = (s : ScenarioParts) × Says text s
