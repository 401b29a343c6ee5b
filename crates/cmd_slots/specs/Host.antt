-- The rule of a slot's host, over its own operations on the slot's words.
use Rattle.std.specs.Prelude.{ℕ, ◌≡◌, ◌+◌, ◌-◌, ◌%◌, ◌^◌, ◌<◌, ◌==◌, ◌++◌, nat_lt, if◌then◌else◌, List, [], ◌∷◌, length, slice_index, Option, Some, None}
use Rattle.bus_core.specs.declared.operation.BusEntry.{BusEntry}
use Rattle.bus_core.specs.Operation.{IsLoad, IsStore, IsSetBits, loaded}
use Rattle.cmd_bodies.specs.declared.command.Command.{Command}
use Rattle.cmd_bodies.specs.Reply.{reply_at}
use Rattle.cmd_slots.specs.declared.answer.Answer.TheVariants.{Delivered, Refused}
use Rattle.cmd_slots.specs.Place.{IsSlot, bits_word, entry_word}
use Rattle.cmd_slots.specs.Bytes.{bytes_of}
use Rattle.cmd_slots.specs.Refusal.{delivery_in, refusal_of}
use Rattle.cmd_slots.specs.Question.{IsQuestion, question_word}
use Rattle.cmd_slots.specs.Answer.{output_word, is_output}
use Rattle.cmd_slots.specs.Slot.{SlotEvent, Submitted, Replied}
use Rattle.cmd_slots.specs.Mark as marks
use Rattle.cmd_slots.specs.Mark.{SlotMark}

-- What the host is at before its next operation: nothing, a command of which so many words are stored, a command that it asked, or the answer of which it has read these words.
pub data HostStage : Type 0 where
  Resting : HostStage
  Filling : (c : Command) (words : List ℕ) (count : ℕ) → HostStage
  Awaiting : (c : Command) → HostStage
  Taking : (c : Command) (words : List ℕ) → HostStage

pub record Asker : Type 0 where
  -- how many commands it asked so far
  pub asked : ℕ
  pub stage : HostStage

-- Which word is stored when so many are: first those of the blocks, which stand behind a head of so many words, and then the head.
abbrev pub stored_next : ℕ → ℕ → ℕ → ℕ
stored_next head long count = if nat_lt (count + head) long then count + head else count + head - long

-- the store of the next word of a question
abbrev pub StoresQuestion : ℕ → List ℕ → ℕ → BusEntry → Type 0
StoresQuestion slot words count e = IsStore (question_word slot words (stored_next 8 (length words) count)) (slice_index words (stored_next 8 (length words) count)) e

-- a command that was not rung for may be stored anew, or another one in its place
abbrev pub IsFree : HostStage → Type 0
IsFree Resting = Unit {0}
IsFree (Filling c words count) = Unit {0}
IsFree _ = ⊥

pub record MayAsk (slot : ℕ) (stage : HostStage) (c : Command) (words : List ℕ) (e : BusEntry) : Type 0 where
  pub free : IsFree stage
  pub question : IsQuestion slot c words
  pub store : StoresQuestion slot words 0 e

abbrev pub MayFill : ℕ → HostStage → BusEntry → Type 0
MayFill slot (Filling c words count) e = (count < length words) × StoresQuestion slot words count e
MayFill slot _ e = ⊥

-- the bit is or-ed in when all words are stored
abbrev pub MayRing : ℕ → HostStage → BusEntry → Type 0
MayRing slot (Filling c words count) e = (count ≡ length words) × IsSetBits bits_word (2 ^ slot) e
MayRing slot _ e = ⊥

-- the answer is read after the last word of the entry has shown it
abbrev pub MayAwait : ℕ → HostStage → BusEntry → Type 0
MayAwait slot (Awaiting c) e = IsLoad (entry_word slot 7) e
MayAwait slot (Taking c words) e = IsLoad (output_word slot (length words)) e
MayAwait slot _ e = ⊥

abbrev pub MayHost_at : ℕ → HostStage → SlotMark → BusEntry → Type 0
MayHost_at slot stage (marks.Ask _ c words) e = MayAsk slot stage c words e
MayHost_at slot stage (marks.Fill _) e = MayFill slot stage e
MayHost_at slot stage (marks.Ring _) e = MayRing slot stage e
MayHost_at slot stage (marks.Await _) e = MayAwait slot stage e
MayHost_at slot stage _ e = ⊥

abbrev pub MayHost : ℕ → Asker → SlotMark → BusEntry → Type 0
MayHost slot h mark e = IsSlot slot × MayHost_at slot h.stage mark e

abbrev pub filled : HostStage → HostStage
filled (Filling c words count) = Filling c words (count + 1)
filled stage = stage

abbrev pub rung : HostStage → HostStage
rung (Filling c words count) = Awaiting c
rung stage = stage

-- the hardware owns the entry until bit 0 of its last word is clear
abbrev pub shown : Command → ℕ → HostStage
shown c word = if word % 2 == 1 then Awaiting c else if delivery_in word == 0 then Taking c [] else Resting

abbrev pub taken : Command → List ℕ → HostStage
taken c words = if is_output c words then Resting else Taking c words

abbrev pub awaited : HostStage → ℕ → HostStage
awaited (Awaiting c) word = shown c word
awaited (Taking c words) word = taken c (words ++ word ∷ [])
awaited stage word = stage

abbrev pub after_host : Asker → SlotMark → BusEntry → Asker
after_host h (marks.Ask _ c words) e = record { asked = h.asked; stage = Filling c words 1 }
after_host h (marks.Fill _) e = record { asked = h.asked; stage = filled h.stage }
after_host h (marks.Ring _) e = record { asked = h.asked + 1; stage = rung h.stage }
after_host h (marks.Await _) e = record { asked = h.asked; stage = awaited h.stage (loaded e) }
after_host h _ e = h

abbrev pub ring_says : ℕ → HostStage → Option SlotEvent
ring_says slot (Filling c words count) = Some (Submitted slot c)
ring_says slot stage = None

abbrev pub shown_says : ℕ → Command → ℕ → Option SlotEvent
shown_says slot c word = if word % 2 == 1 then None else if delivery_in word == 0 then None else Some (Replied slot c (Refused (refusal_of (delivery_in word))))

abbrev pub taken_says : ℕ → Command → List ℕ → Option SlotEvent
taken_says slot c words = if is_output c words then Some (Replied slot c (Delivered (reply_at c (bytes_of words)))) else None

abbrev pub await_says : ℕ → HostStage → ℕ → Option SlotEvent
await_says slot (Awaiting c) word = shown_says slot c word
await_says slot (Taking c words) word = taken_says slot c (words ++ word ∷ [])
await_says slot stage word = None

-- what the operation says, if it is a marked one
abbrev pub host_says : ℕ → Asker → SlotMark → BusEntry → Option SlotEvent
host_says slot h (marks.Ring _) e = ring_says slot h.stage
host_says slot h (marks.Await _) e = await_says slot h.stage (loaded e)
host_says slot h _ e = None

-- A machine that dropped a command which it had not rung for knows less than its side's list tells.
abbrev pub StageLess : HostStage → HostStage → Type 0
StageLess Resting stage = IsFree stage
StageLess stage stage' = stage ≡ stage'

pub record KnowsLess (h h' : Asker) : Type 0 where
  pub asked_same : h.asked ≡ h'.asked
  pub stage_less : StageLess h.stage h'.stage
