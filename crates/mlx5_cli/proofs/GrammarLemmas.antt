-- What follows from a text's being of the grammar.
use Rattle.std.proofs.Common.{ℕ, ◌≡◌, ◌≤◌, Bool, true, false, cond, nat_lt, List, length, Result, Ok, Err, refl, arith}
use Rattle.std.proofs.lemmas.Bool.Decides.{nat_tests}
use Rattle.scenario_text.specs.Whole.{Answer, nothing_said, reading_from}
use Rattle.scenario_text.specs.Text.{split}
use Rattle.scenario_text.specs.declared.fault.LimitName.TheVariants.{Text}
use Rattle.scenario_text.specs.declared.fault.ScenarioFault.TheVariants.{Limit}
use Rattle.scenario_text.specs.declared.scenario.ScenarioParts.{ScenarioParts}
use Rattle.mlx5_cli.specs.declared.reading.TheConstants.{TEXT_LIMIT}
use Rattle.mlx5_cli.specs.Grammar.{OfGrammar}
use Rattle.mlx5_cli.specs.RunText.{IsRunOf}

short : (long : Bool) (text : List ℕ) (rest : Answer) (s : ScenarioParts) → nat_lt 4194304 (length text) ≡ long → (cond long (Err (Limit Text 4194305)) rest) ≡ Ok s → length text ≤ TEXT_LIMIT
short true text rest s e h = absurd (cc)
short false text rest s e h = grind (arith, nat_tests)

-- it is no longer than a text may be
pub length-of_grammar : (text : List ℕ) → OfGrammar text → length text ≤ TEXT_LIMIT
length-of_grammar text (s, says) = short (nat_lt 4194304 (length text)) text (reading_from nothing_said (split 10 text)) s refl says

-- what has a run is of the grammar
pub of_grammar : {input text : List ℕ} → IsRunOf input text → OfGrammar input
of_grammar is = (is.scenario, is.says)
