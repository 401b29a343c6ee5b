-- What a command slot stands for: a question and its answer.
use Rattle.std.specs.Prelude.{ℕ, ◌≡◌, ◌+◌, ◌++◌, ◌==◌, List, ◌∷◌, fold, Option, Some, None, Result, Ok, if◌then◌else◌}
use Rattle.bus_core.specs.Follow.{Follows}
use Rattle.cmd_bodies.specs.declared.command.Command.{Command}
use Rattle.cmd_slots.specs.declared.answer.Answer.{Answer}
use Rattle.cmd_slots.specs.Answer.{Answers}
use Rattle.cmd_slots.specs.Family.{put}

-- a slot after so many commands that were asked, answered and their answers read
pub data Slot : Type 0 where
  Free : (done : ℕ) → Slot
  Asked : (done : ℕ) (c : Command) → Slot
  Answered : (done : ℕ) (c : Command) (answer : Answer) → Slot

-- what a marked operation says
pub data SlotEvent : Type 0 where
  Submitted : (slot : ℕ) (c : Command) → SlotEvent
  -- what was read of the question, and the answer to it
  Executed : (slot : ℕ) (question : Result Command Answer) (answer : Answer) → SlotEvent
  Replied : (slot : ℕ) (c : Command) (answer : Answer) → SlotEvent

abbrev pub slot_of : SlotEvent → ℕ
slot_of (Submitted slot c) = slot
slot_of (Executed slot question answer) = slot
slot_of (Replied slot c answer) = slot

-- when an event may happen to its slot: a free one is asked a command, the command that was asked is answered, and the answer that was given is read
abbrev pub IsFree : Slot → Type 0
IsFree (Free done) = Unit {0}
IsFree _ = ⊥

abbrev pub MayExecute : Slot → Result Command Answer → Answer → Type 0
MayExecute (Asked done c) question answer = (question ≡ Ok c) × Answers question answer
MayExecute _ question answer = ⊥

abbrev pub MayRead : Slot → Command → Answer → Type 0
MayRead (Answered done c answer) c' answer' = (c' ≡ c) × (answer' ≡ answer)
MayRead _ c' answer' = ⊥

abbrev pub MayHappen_to : Slot → SlotEvent → Type 0
MayHappen_to state (Submitted slot c) = IsFree state
MayHappen_to state (Executed slot question answer) = MayExecute state question answer
MayHappen_to state (Replied slot c answer) = MayRead state c answer

-- what it makes of its slot
abbrev pub asked_with : Command → Slot → Slot
asked_with c (Free done) = Asked done c
asked_with c state = state

abbrev pub answered_with : Answer → Slot → Slot
answered_with answer (Asked done c) = Answered done c answer
answered_with answer state = state

abbrev pub freed : Slot → Slot
freed (Answered done c answer) = Free (done + 1)
freed state = state

abbrev pub made_of : Slot → SlotEvent → Slot
made_of state (Submitted slot c) = asked_with c state
made_of state (Executed slot question answer) = answered_with answer state
made_of state (Replied slot c answer) = freed state

-- the step relation of all slots
abbrev pub MayHappen : (ℕ → Slot) → SlotEvent → Type 0
MayHappen slots event = MayHappen_to (slots (slot_of event)) event

abbrev pub after_event : (ℕ → Slot) → SlotEvent → ℕ → Slot
after_event slots event = put slots (slot_of event) (made_of (slots (slot_of event)) event)

abbrev pub all_free : ℕ → Slot
all_free slot = Free 0

abbrev pub IsLegal : (ℕ → Slot) → List SlotEvent → Type 0
IsLegal slots events = Follows MayHappen after_event slots events

-- the last event of one slot, if it has any
abbrev pub later_of : ℕ → Option SlotEvent → SlotEvent → Option SlotEvent
later_of slot last event = if slot_of event == slot then Some event else last

abbrev pub last_of : ℕ → List SlotEvent → Option SlotEvent
last_of slot events = fold (later_of slot) None events

abbrev pub IsReply : Option SlotEvent → Type 0
IsReply None = Unit {0}
IsReply (Some (Replied slot c answer)) = Unit {0}
IsReply _ = ⊥

-- In every legal history from free slots, of each slot by itself: a command is asked first of all or after an answer was read; what is executed is the command that was asked last, and its answer is one to it; what is read is the answer that was given last, to the command that was asked. So each command is executed once and each answer is read once, in order.
pub record KeepsQuestions : Type 0 where
  pub asked : (before after : List SlotEvent) (slot : ℕ) (c : Command) → IsLegal all_free (before ++ Submitted slot c ∷ after) → IsReply (last_of slot before)
  pub executed : (before after : List SlotEvent) (slot : ℕ) (question : Result Command Answer) (answer : Answer) → IsLegal all_free (before ++ Executed slot question answer ∷ after) → (c : Command) × (question ≡ Ok c) × (last_of slot before ≡ Some (Submitted slot c)) × Answers (Ok c) answer
  pub replied : (before after : List SlotEvent) (slot : ℕ) (c : Command) (answer : Answer) → IsLegal all_free (before ++ Replied slot c answer ∷ after) → last_of slot before ≡ Some (Executed slot (Ok c) answer)
