-- The weight of a scenario, which bounds how long its run may become.
use Rattle.std.specs.Prelude.{ℕ, ◌+◌, ◌-◌, ◌*◌, ◌^◌, min, List, length}
use Rattle.std.specs.List.{sum_by}
use Rattle.verbs_types.specs.declared.request.Sge.{Sge}
use Rattle.verbs_types.specs.declared.request.Body.{Body}
use Rattle.verbs_types.specs.declared.request.Body.TheVariants.{Sges, Inline}
use Rattle.verbs_types.specs.declared.request.Op.{Op}
use Rattle.verbs_types.specs.declared.request.Op.TheVariants.{Cas, Faa}
use Rattle.verbs_types.specs.declared.request.Request.{Request}
use Rattle.verbs_types.specs.declared.call.Call.{Call}
use Rattle.verbs_types.specs.declared.call.Call.TheVariants.{Post, Recv, Poll, Drain}
use Rattle.verbs_types.specs.declared.declaration.Lines.{Lines}

-- how many bytes a body has
abbrev pub body_length : Body → ℕ
body_length (Sges sges) = sum_by (λ (s : Sge). s.len) sges
body_length (Inline bytes) = length bytes

-- how many bytes a request moves; an atomic moves eight
abbrev pub moved : Op → Body → ℕ
moved (Cas raddr rkey compare swap) body = 8
moved (Faa raddr rkey add) body = 8
moved _ body = body_length body

abbrev pub request_weight : Request → ℕ
request_weight r = 16 + 4 * moved r.op r.body

abbrev pub call_weight : Call → ℕ
call_weight (Post qp requests) = 8 + sum_by request_weight requests
call_weight (Recv qp receives) = 8 + 8 * length receives
call_weight (Poll cq most) = 8 + 4 * most
call_weight (Drain cq count) = 8 + 6 * count

abbrev pub program_weight : List Call → ℕ
program_weight calls = sum_by call_weight calls

-- 8 an object, 24 a connection, 64 for the opening and 1,024 for the closing, and the calls
abbrev pub weight : Lines → List (List Call) → ℕ
weight d programs = 8 * length d.order + 24 * length d.connects + 64 + 1024 + sum_by program_weight programs

-- what 64 bits hold of a number: the number, or else the most that they hold
abbrev pub capped : ℕ → ℕ
capped n = min n (2 ^ 64 - 1)
