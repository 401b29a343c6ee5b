-- The rule of the device, over its own operations on the slots' words.
use Rattle.std.specs.Prelude.{ℕ, ◌≡◌, ◌+◌, ◌%◌, ◌^◌, ◌<◌, ◌==◌, ◌||◌, ◌++◌, if◌then◌else◌, Bool, true, false, List, [], ◌∷◌, length, take, slice_index, Option, Some, None, Result}
use Rattle.std.specs.Int.{bit_at}
use Rattle.bus_core.specs.declared.operation.BusEntry.{BusEntry}
use Rattle.bus_core.specs.Operation.{IsLoad, IsStore, IsSwap, loaded}
use Rattle.cmd_bodies.specs.declared.command.Command.{Command}
use Rattle.cmd_slots.specs.declared.answer.Answer.{Answer}
use Rattle.cmd_slots.specs.Place.{IsSlot, bits_word}
use Rattle.cmd_slots.specs.Family.{put}
use Rattle.cmd_slots.specs.Question.{question_word, verdict}
use Rattle.cmd_slots.specs.Answer.{Answers, IsAnswer, answer_word}
use Rattle.cmd_slots.specs.Host.{stored_next}
use Rattle.cmd_slots.specs.Slot.{SlotEvent, Executed}
use Rattle.cmd_slots.specs.Mark as marks
use Rattle.cmd_slots.specs.Mark.{SlotMark}

-- What the device is at with a slot before its next operation there: it has read these words of a question, none at first; it has judged a question, whose entry this is; or it has stored so many words of an answer.
pub data ServeStage : Type 0 where
  Reading : (words : List ℕ) → ServeStage
  Judged : (entry : List ℕ) (question : Result Command Answer) → ServeStage
  Storing : (entry : List ℕ) (question : Result Command Answer) (answer : Answer) (words : List ℕ) (count : ℕ) → ServeStage

pub record Server : Type 0 where
  -- how many commands of the slot it answered so far
  pub answered : ℕ
  pub stage : ServeStage

-- the device: in which slots it found a bit and has not answered yet, and what it is at there
pub record Adapter : Type 0 where
  pub found : ℕ → Bool
  pub servers : ℕ → Server

abbrev pub MayRead : ℕ → ServeStage → BusEntry → Type 0
MayRead slot (Reading words) e = IsLoad (question_word slot words (length words)) e
MayRead slot _ e = ⊥

-- the store of the next word of an answer: those of the blocks, words 4 and 5 of the entry, and its last word
abbrev pub StoresAnswer : ℕ → List ℕ → ℕ → BusEntry → Type 0
StoresAnswer slot words count e = IsStore (answer_word slot (stored_next 3 (length words) count)) (slice_index words (stored_next 3 (length words) count)) e

pub record MayReply_to (slot : ℕ) (entry : List ℕ) (question : Result Command Answer) (answer : Answer) (words : List ℕ) (e : BusEntry) : Type 0 where
  pub fits : Answers question answer
  pub spells : IsAnswer entry answer words
  pub store : StoresAnswer slot words 0 e

abbrev pub MayReply : ℕ → ServeStage → Answer → List ℕ → BusEntry → Type 0
MayReply slot (Judged entry question) answer words e = MayReply_to slot entry question answer words e
MayReply slot _ answer words e = ⊥

abbrev pub MayStore : ℕ → ServeStage → BusEntry → Type 0
MayStore slot (Storing entry question answer words count) e = (count < length words) × StoresAnswer slot words count e
MayStore slot _ e = ⊥

-- the rule of an operation on the words of one slot
abbrev pub MayServe_at : ℕ → ServeStage → SlotMark → BusEntry → Type 0
MayServe_at slot stage (marks.Read _) e = MayRead slot stage e
MayServe_at slot stage (marks.Reply _ answer words) e = MayReply slot stage answer words e
MayServe_at slot stage (marks.Store _) e = MayStore slot stage e
MayServe_at slot stage _ e = ⊥

abbrev pub judged_as : List ℕ → Option (Result Command Answer) → ServeStage
judged_as words None = Reading words
judged_as words (Some question) = Judged (take 8 words) question

abbrev pub read_on : ℕ → ServeStage → ℕ → ServeStage
read_on slot (Reading words) word = judged_as (words ++ word ∷ []) (verdict slot (words ++ word ∷ []))
read_on slot stage word = stage

abbrev pub replying : ServeStage → Answer → List ℕ → ServeStage
replying (Judged entry question) answer words = Storing entry question answer words 1
replying stage answer words = stage

-- the answer is given with its last word
abbrev pub is_last : List ℕ → ℕ → Bool
is_last words count = count + 1 == length words

abbrev pub stored_on : Server → ServeStage → Server
stored_on s (Storing entry question answer words count) =
    if is_last words count then record { answered = s.answered + 1; stage = Reading [] }
    else record { answered = s.answered; stage = Storing entry question answer words (count + 1) }
stored_on s stage = s

abbrev pub after_server : ℕ → Server → SlotMark → BusEntry → Server
after_server slot s (marks.Read _) e = record { answered = s.answered; stage = read_on slot s.stage (loaded e) }
after_server slot s (marks.Reply _ answer words) e = record { answered = s.answered; stage = replying s.stage answer words }
after_server slot s (marks.Store _) e = stored_on s s.stage
after_server slot s _ e = s

abbrev pub store_says : ℕ → ServeStage → Option SlotEvent
store_says slot (Storing entry question answer words count) = if is_last words count then Some (Executed slot question answer) else None
store_says slot stage = None

-- what an operation on the words of one slot says, if it is a marked one
abbrev pub server_says : ℕ → Server → SlotMark → BusEntry → Option SlotEvent
server_says slot s (marks.Store _) e = store_says slot s.stage
server_says slot s _ e = None

-- the device serves the slots whose bit it found
pub record MayServe (d : Adapter) (slot : ℕ) (mark : SlotMark) (e : BusEntry) : Type 0 where
  pub slot_ok : IsSlot slot
  pub here : d.found slot ≡ true
  pub serves : MayServe_at slot (d.servers slot).stage mark e

abbrev pub MayDeliver : Adapter → SlotMark → BusEntry → Type 0
MayDeliver d marks.Sweep e = IsSwap bits_word 0 e
MayDeliver d (marks.Read slot) e = MayServe d slot (marks.Read slot) e
MayDeliver d (marks.Reply slot answer words) e = MayServe d slot (marks.Reply slot answer words) e
MayDeliver d (marks.Store slot) e = MayServe d slot (marks.Store slot) e
MayDeliver d _ e = ⊥

-- a bit in a word of bits
abbrev pub has_bit : ℕ → ℕ → Bool
has_bit word slot = bit_at word slot == 1

-- those of the slots: the low 32
abbrev pub slot_bits : ℕ → ℕ
slot_bits word = word % 2 ^ 32

abbrev pub swept : Adapter → ℕ → Adapter
swept d word = record { found = λ slot. d.found slot || has_bit (slot_bits word) slot; servers = d.servers }

abbrev pub serving : Adapter → ℕ → Server → Adapter
serving d slot s = record { found = d.found; servers = put d.servers slot s }

-- a slot that was answered is no more among those whose bit was found
abbrev pub answered_if : Bool → Adapter → ℕ → Adapter
answered_if true d slot = record { found = put d.found slot false; servers = d.servers }
answered_if false d slot = d

abbrev pub gives : Option SlotEvent → Bool
gives None = false
gives (Some event) = true

abbrev pub after_serve : Adapter → ℕ → SlotMark → BusEntry → Adapter
after_serve d slot mark e = answered_if (gives (server_says slot (d.servers slot) mark e)) (serving d slot (after_server slot (d.servers slot) mark e)) slot

abbrev pub after_deliver : Adapter → SlotMark → BusEntry → Adapter
after_deliver d marks.Sweep e = swept d (loaded e)
after_deliver d (marks.Read slot) e = after_serve d slot (marks.Read slot) e
after_deliver d (marks.Reply slot answer words) e = after_serve d slot (marks.Reply slot answer words) e
after_deliver d (marks.Store slot) e = after_serve d slot (marks.Store slot) e
after_deliver d _ e = d

-- what the operation says, if it is a marked one
abbrev pub delivered : Adapter → SlotMark → BusEntry → Option SlotEvent
delivered d (marks.Store slot) e = server_says slot (d.servers slot) (marks.Store slot) e
delivered d _ e = None
