-- What the words of a send entry ask for, and the completion that answers.
use Rattle.std.specs.Prelude.{ℕ, ◌/◌, ◌%◌, ◌^◌, ◌==◌, ◌&&◌, Bool, false, List, slice_index}
use Rattle.cqe_format.specs.declared.completion.Cqe.{Cqe}
use Rattle.work_entries.specs.Front.{opcode_in, is_wanted}

-- The control segment is a NOP's that wants a completion. Any other request is taken without one: only NOPs are built.
abbrev pub wants : List ℕ → Bool
wants words = (opcode_in (slice_index words 0) == 0) && is_wanted (slice_index words 1)

-- A NOP of this queue pair succeeded, whose entry's first block has this index. The opcode 0 is that of a requester's success, and the send opcode 0 that of a NOP.
abbrev pub nop_cqe : ℕ → ℕ → Cqe
nop_cqe qp index = record {
  opcode = 0;
  sop = 0;
  qpn = qp;
  srqn = 0;
  imm = 0;
  len = 0;
  counter = index % 2 ^ 16;
  syndrome = 0;
  solicited = false;
  format = 0;
}
