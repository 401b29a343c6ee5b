-- What a completion of an opcode has.
use Rattle.std.specs.Prelude.{ℕ, Bool, ◌==◌, ◌||◌, not}

-- a request succeeded
abbrev pub is_request : ℕ → Bool
is_request opcode = opcode == 0

-- a receive took a write with immediate, a send, or a send with immediate
abbrev pub is_receive : ℕ → Bool
is_receive opcode = (opcode == 1) || (opcode == 2) || (opcode == 3)

-- the queue goes on in its other area
abbrev pub is_resize : ℕ → Bool
is_resize opcode = opcode == 5

-- a request or a receive failed
abbrev pub is_error : ℕ → Bool
is_error opcode = (opcode == 13) || (opcode == 14)

abbrev pub is_known : ℕ → Bool
is_known opcode = is_request opcode || is_receive opcode || is_resize opcode || is_error opcode

-- it has the number of a shared receive queue
abbrev pub has_srqn : ℕ → Bool
has_srqn opcode = is_receive opcode || (opcode == 14)

abbrev pub has_imm : ℕ → Bool
has_imm opcode = (opcode == 1) || (opcode == 3)

-- it has the length of a message
abbrev pub has_len : ℕ → Bool
has_len opcode = is_request opcode || is_receive opcode

-- it has a queue pair and a counter
abbrev pub has_qpn : ℕ → Bool
has_qpn opcode = not (is_resize opcode)

-- the opcodes of send requests
abbrev pub is_send_opcode : ℕ → Bool
is_send_opcode sop =
    (sop == 0x00) || (sop == 0x08) || (sop == 0x09) || (sop == 0x0a) || (sop == 0x0b) || (sop == 0x10) || (sop == 0x11) || (sop == 0x12)
