-- The fields of a line after its first.
use Rattle.std.specs.Prelude.{ℕ, List, [], ◌∷◌, ◌++◌, codes, decimal}
use Rattle.std.specs.List.{flat_map}
use Rattle.verbs_types.specs.declared.declaration.QpLine.{QpLine}
use Rattle.verbs_types.specs.declared.declaration.Lines.{Lines}
use Rattle.verbs_types.specs.declared.entry.What.{What}
use Rattle.scenario_text.specs.Heads.{pd_name, cq_name}
use Rattle.transcript_text.specs.History.{what_fields}

-- each field after a space
abbrev pub spaced : List (List ℕ) → List ℕ
spaced fields = flat_map (λ field. 32 ∷ field) fields

-- what stands after the actor of an entry
abbrev pub row_text : Lines → What → List ℕ
row_text d w = spaced (what_fields d w)

-- the two halves of the line of a queue pair
abbrev pub qp_names : Lines → QpLine → List (List ℕ)
qp_names d l = l.name ∷ pd_name d l.pd ∷ cq_name d l.send_cq ∷ cq_name d l.recv_cq ∷ []

abbrev pub qp_sizes : QpLine → List (List ℕ)
qp_sizes l = decimal l.send_log ∷ (codes "rq:" ++ decimal l.recv_log) ∷ decimal l.segments ∷ decimal l.start ∷ []
