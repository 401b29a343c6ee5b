-- The words of the commands.
use Rattle.std.specs.Prelude.{ℕ, ◌≢◌, List, [], ◌∷◌, codes}
use Rattle.prm_fields.specs.Names.{layout_text}
use Rattle.mlx5_cli.specs.declared.command.Command.{Command}
use Rattle.mlx5_cli.specs.declared.command.Command.TheVariants.{Run, Layout}

-- the words after the program's name that ask for a command
abbrev pub words_of : Command → List (List ℕ)
words_of Run = codes "run" ∷ []
words_of (Layout name) = codes "layout" ∷ layout_text name ∷ []

-- the words ask for no command
abbrev pub AskNothing : List (List ℕ) → Type 0
AskNothing words = (command : Command) → words ≢ words_of command
