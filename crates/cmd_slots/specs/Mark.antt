-- What an operation on the slots' words is about.
use Rattle.std.specs.Prelude.{ℕ, List, Option, Some, None}
use Rattle.bus_core.specs.TwoSides.{Party, Device, Host, Bystander}
use Rattle.cmd_bodies.specs.declared.command.Command.{Command}
use Rattle.cmd_slots.specs.declared.answer.Answer.{Answer}

pub data SlotMark : Type 0 where
  -- a slot's host begins to store this command, in these words
  Ask : (slot : ℕ) (c : Command) (words : List ℕ) → SlotMark
  -- it stores the next word of the command
  Fill : (slot : ℕ) → SlotMark
  -- it or-s its bit into the word of bits
  Ring : (slot : ℕ) → SlotMark
  -- it loads the word that tells whether there is an answer, or the next word of the answer
  Await : (slot : ℕ) → SlotMark
  -- the device swaps the word of bits
  Sweep : SlotMark
  -- it loads the next word of a slot's question
  Read : (slot : ℕ) → SlotMark
  -- it begins to store this answer, in these words
  Reply : (slot : ℕ) (answer : Answer) (words : List ℕ) → SlotMark
  -- it stores the next word of the answer
  Store : (slot : ℕ) → SlotMark
  -- nobody's
  Foreign : SlotMark

abbrev pub role_of : SlotMark → Party
role_of (Ask slot c words) = Host
role_of (Fill slot) = Host
role_of (Ring slot) = Host
role_of (Await slot) = Host
role_of Sweep = Device
role_of (Read slot) = Device
role_of (Reply slot answer words) = Device
role_of (Store slot) = Device
role_of Foreign = Bystander

-- whose host makes the operation, if one does
abbrev pub host_of : SlotMark → Option ℕ
host_of (Ask slot c words) = Some slot
host_of (Fill slot) = Some slot
host_of (Ring slot) = Some slot
host_of (Await slot) = Some slot
host_of _ = None
