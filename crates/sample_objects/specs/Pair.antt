-- The declared lines.
use Rattle.std.specs.Prelude.{ℕ, [], ◌∷◌, codes}
use Rattle.verbs_types.specs.declared.declaration.QpLine.{QpLine}
use Rattle.verbs_types.specs.declared.declaration.Object.TheVariants.{Eq, Pd, Cq, Qp}
use Rattle.verbs_types.specs.declared.declaration.Lines.{Lines}

-- the queue pair's line
abbrev pub pair_of : ℕ → ℕ → ℕ → QpLine
pair_of send_log recv_log segments = record { name = codes "q"; pd = 1; send_cq = 0; recv_cq = 0; send_log = send_log; recv_log = recv_log; segments = segments; start = 0 }

-- all lines with this queue pair
abbrev pub lines_of : QpLine → Lines
lines_of q = record {
  eqs = record { name = codes "e"; log = 1 } ∷ [];
  pds = record { name = codes "p" } ∷ [];
  cqs = record { name = codes "c"; log = 2; ceiling = 2; eq = 0; start = 0 } ∷ [];
  qps = q ∷ [];
  order = Eq 0 ∷ Pd 1 ∷ Cq 0 ∷ Qp 64 ∷ [];
  connects = record { a = 64; b = 64 } ∷ [];
  threads = codes "a" ∷ codes "b" ∷ [];
}
