-- The output of an answer as bytes.
use Rattle.std.specs.Prelude.{ℕ, ◌≡◌, ◌≤◌, List}
use Rattle.cmd_bodies.specs.Reply.{HasReply, listed_of, reply_length}
use Rattle.cmd_slots.specs.declared.answer.Answer.{Answer}
use Rattle.cmd_slots.specs.declared.answer.Answer.TheVariants.{Delivered, Refused}

-- at most 88 pages are listed
abbrev pub IsShort : Answer → Type 0
IsShort (Delivered reply) = listed_of reply ≤ 88
IsShort (Refused fault) = Unit {0}

-- the first bytes, so many, are the output of an answer
abbrev pub IsOutput : Answer → ℕ → List ℕ → Type 0
IsOutput (Delivered reply) count bytes = (count ≡ reply_length reply) × HasReply reply bytes
IsOutput (Refused fault) count bytes = count ≡ 16
