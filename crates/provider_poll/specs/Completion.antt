-- The completion of a request, as a thread is given it.
use Rattle.std.specs.Prelude.{ℕ, ◌==◌, ◌||◌, Bool, Option, Some, None, if◌then◌else◌}
use Rattle.verbs_types.specs.declared.completion.Completion.{Completion}
use Rattle.verbs_types.specs.declared.completion.Kind.{Kind}
use Rattle.verbs_types.specs.declared.completion.Kind.TheVariants.{Nop, Send, Write, Read, Cas, Faa, Failed}
use Rattle.verbs_types.specs.declared.completion.Queue.TheVariants as queues
use Rattle.cqe_format.specs.declared.completion.Cqe.{Cqe}
use Rattle.cqe_format.specs.declared.opcode.TheConstants.{REQUEST, REQUEST_ERROR}
use Rattle.cqe_format.specs.declared.syndrome.Syndrome.{Syndrome}
use Rattle.cqe_format.specs.Syndrome.{syndrome_of, verbs_status}

abbrev pub is_of_request : Cqe → Bool
is_of_request c = (c.opcode == REQUEST) || (c.opcode == REQUEST_ERROR)

abbrev pub status_for : Option Syndrome → ℕ
status_for None = 0
status_for (Some syndrome) = verbs_status syndrome

abbrev pub status_of : ℕ → ℕ
status_of syndrome = status_for (syndrome_of syndrome)

-- by the opcode of the request
abbrev pub kind_of_request : ℕ → Kind
kind_of_request sop =
    if sop == 0x00 then Nop
    else if (sop == 0x08) || (sop == 0x09) then Write
    else if (sop == 0x0a) || (sop == 0x0b) then Send
    else if sop == 0x10 then Read
    else if sop == 0x11 then Cas
    else if sop == 0x12 then Faa
    else Failed

abbrev pub kind_of : Cqe → Kind
kind_of c = if c.opcode == REQUEST then kind_of_request c.sop else Failed

abbrev pub completion_of : Cqe → ℕ → Completion
completion_of c id = record {
  queue = queues.Send c.qpn;
  qp = c.qpn;
  id = id;
  status = status_of c.syndrome;
  kind = kind_of c;
  len = c.len;
  imm = None;
  solicited = c.solicited;
}
