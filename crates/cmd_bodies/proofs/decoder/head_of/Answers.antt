use Rattle.std.proofs.Common.{refl, ◌∙◌, arith}
use Rattle.cmd_bodies.proofs.decoder.head_of.Goals as goal

pub returns-clause-code : goal.returns-clause-code
returns-clause-code c =
    let opcode = c.get.ensures.value ∙ c.first_bytes-head.ensures 0 16 (omega arith) in
    let modifier = c.get-2.ensures.value ∙ c.first_bytes-head.ensures 48 16 (omega arith) in
    rw (opcode, modifier) refl

pub returns-clause-between : goal.returns-clause-between
returns-clause-between c = c.get-3.ensures.value ∙ c.first_bytes-head.ensures 16 32 (omega arith)

pub returns-clause-number : goal.returns-clause-number
returns-clause-number c = c.get-4.ensures.value ∙ c.first_bytes-head.ensures 64 32 (omega arith)

pub returns-clause-second : goal.returns-clause-second
returns-clause-second c = c.get-5.ensures.value ∙ c.first_bytes-head.ensures 96 32 (omega arith)
