-- A text is what is printed of its scenario.
use Rattle.scenario_text.proofs.WholeText.{text_printed}
use Rattle.scenario_text.proofs.laws.texts_are_printed.Goals as goal

pub returns : goal.returns
returns c = text_printed
