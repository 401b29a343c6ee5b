-- The lines of a text that say something, and those that a history repeats.
use Rattle.std.specs.Prelude.{ℕ, List, [], ◌∷◌, ◌++◌, codes, Bool, not, bytes_eq}
use Rattle.std.specs.List.{filter, flat_map, list_any}
use Rattle.scenario_text.specs.declared.scenario.Plan.TheVariants.{Idle}
use Rattle.scenario_text.specs.declared.scenario.ScenarioParts.{ScenarioParts}
use Rattle.scenario_text.specs.Text.{Field, split, part_at, is_skipped}

-- the words of the lines that declare objects and connect queue pairs
abbrev pub head_words : List Field
head_words = codes "eq" ∷ codes "pd" ∷ codes "cq" ∷ codes "qp" ∷ codes "connect" ∷ []

abbrev pub is_head_line : List ℕ → Bool
is_head_line bytes = list_any (bytes_eq (part_at (split 32 bytes) 0)) head_words

-- a line with its end
abbrev pub ended : List ℕ → List ℕ
ended bytes = bytes ++ 10 ∷ []

-- the declaration and connect lines of a text, as they stand there
abbrev pub head_of : List ℕ → List ℕ
head_of text = flat_map ended (filter is_head_line (split 10 text))

-- a line that is not empty and no comment
abbrev pub says_something : List ℕ → Bool
says_something bytes = not (is_skipped bytes)

-- a text without its comments and its empty lines
abbrev pub without_comments : List ℕ → List ℕ
without_comments text = flat_map ended (filter says_something (split 10 text))

-- what a scenario declares and connects, with no threads and no turns
abbrev pub head_alone : ScenarioParts → ScenarioParts
head_alone s = record { lines = record s.lines { threads = [] }; programs = []; plan = Idle }
