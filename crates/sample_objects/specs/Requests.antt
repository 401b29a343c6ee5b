-- Requests and their completions.
use Rattle.std.specs.Prelude.{ℕ, Bool, false, None, []}
use Rattle.verbs_types.specs.declared.completion.Completion.{Completion}
use Rattle.verbs_types.specs.declared.completion.Kind.{Kind}
use Rattle.verbs_types.specs.declared.completion.Queue.{Queue}
use Rattle.verbs_types.specs.declared.request.Body.{Body}
use Rattle.verbs_types.specs.declared.request.Op.{Op}
use Rattle.verbs_types.specs.declared.request.Request.{Request}

-- a request without operation
abbrev pub nop : ℕ → Bool → Request
nop id wanted = record { id = id; op = Op.Nop; wanted = wanted; solicited = false; fence = false; body = Body.Sges [] }

-- its completion
abbrev pub nop_completion : ℕ → Completion
nop_completion id = record { queue = Queue.Send 64; qp = 64; id = id; status = 0; kind = Kind.Nop; len = 0; imm = None; solicited = false }
