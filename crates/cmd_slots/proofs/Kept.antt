-- What a legal history says of each slot by itself.
use Rattle.std.proofs.Common.{◌≡◌, ℕ, inl, inr, ap, sym, ◌∙◌, subst, cond, List, [], ◌∷◌, ◌++◌, Option, Some, None, Result, Ok, append_assoc}
use Rattle.std.proofs.lemmas.List.{append-nil}
use Rattle.std.proofs.lemmas.Bool.Decides.{eqb_tells}
use Rattle.bus_core.proofs.Following.{fold-push}
use Rattle.cmd_bodies.specs.declared.command.Command.{Command}
use Rattle.cmd_slots.specs.declared.answer.Answer.{Answer}
use Rattle.cmd_slots.specs.Answer.{Answers}
use Rattle.cmd_slots.specs.Slot.{Slot, Free, Asked, Answered, SlotEvent, Submitted, Executed, Replied, slot_of, IsFree, MayExecute, MayRead, MayHappen, MayHappen_to, made_of, after_event, all_free, IsLegal, later_of, last_of, IsReply, KeepsQuestions}
use Rattle.cmd_slots.proofs.Tied.{put_here, put_there}

-- what the last event of a slot leaves it as
abbrev Left : ℕ → Slot → Option SlotEvent → Type 0
Left slot (Free done) last = IsReply last
Left slot (Asked done c) last = last ≡ Some (Submitted slot c)
Left slot (Answered done c answer) last = last ≡ Some (Executed slot (Ok c) answer)

-- an event of the slot itself
made_left : (slot : ℕ) (state : Slot) (event : SlotEvent) → slot_of event ≡ slot → MayHappen_to state event → Left slot (made_of state event) (Some event)
made_left slot (Free done) (Submitted other c) same may = ap (λ n. Some (Submitted n c)) same
made_left slot (Asked done c) (Submitted other c') same may = absurd may
made_left slot (Answered done c answer) (Submitted other c') same may = absurd may
made_left slot (Free done) (Executed other question answer) same may = absurd may
made_left slot (Asked done c) (Executed other question answer) same may = ap (λ n. Some (Executed n question answer)) same ∙ ap (λ (q : Result Command Answer). Some (Executed slot q answer)) may.0
made_left slot (Answered done c given) (Executed other question answer) same may = absurd may
made_left slot (Free done) (Replied other c answer) same may = absurd may
made_left slot (Asked done c) (Replied other c' answer) same may = absurd may
made_left slot (Answered done c given) (Replied other c' answer) same may = tt

abbrev AllLeft : List SlotEvent → (ℕ → Slot) → Type 0
AllLeft past slots = (slot : ℕ) → Left slot (slots slot) (last_of slot past)

last_of-push : (slot : ℕ) (past : List SlotEvent) (event : SlotEvent) → last_of slot (past ++ event ∷ []) ≡ later_of slot (last_of slot past) event
last_of-push slot past event = fold-push (later_of slot) None past event

step : (past : List SlotEvent) (slots : ℕ → Slot) (event : SlotEvent) → AllLeft past slots → MayHappen slots event → AllLeft (past ++ event ∷ []) (after_event slots event)
step past slots event left may slot = subst (Left slot (after_event slots event slot)) (sym (last_of-push slot past event)) (elim (eqb_tells (slot_of event) slot) [
  | inl same ↦
      let new : Left slot (made_of (slots (slot_of event)) event) (Some event) = made_left slot (slots (slot_of event)) event same.1 may in
      let last : later_of slot (last_of slot past) event ≡ Some event = ap (λ t. cond t (Some event) (last_of slot past)) same.0 in
      put_here (λ (l : Slot). Left slot l (later_of slot (last_of slot past) event)) slots (slot_of event) (made_of (slots (slot_of event)) event) slot same.1 (subst (Left slot (made_of (slots (slot_of event)) event)) (sym last) new)
  | inr other ↦
      let last : later_of slot (last_of slot past) event ≡ last_of slot past = ap (λ t. cond t (Some event) (last_of slot past)) other.0 in
      put_there (λ (l : Slot). Left slot l (later_of slot (last_of slot past) event)) slots (slot_of event) (made_of (slots (slot_of event)) event) slot other.1 (subst (Left slot (slots slot)) (sym last) (left slot))
])

-- a legal history up to an event
record UpTo (past : List SlotEvent) (event : SlotEvent) : Type 0 where
  state : Slot
  left : Left (slot_of event) state (last_of (slot_of event) past)
  may : MayHappen_to state event

up_to : (past before after : List SlotEvent) (slots : ℕ → Slot) (event : SlotEvent) → AllLeft past slots → IsLegal slots (before ++ event ∷ after) → UpTo (past ++ before) event
up_to past [] after slots event left legal = record { state = slots (slot_of event); left = subst (λ (es : List SlotEvent). Left (slot_of event) (slots (slot_of event)) (last_of (slot_of event) es)) (sym (append-nil past)) (left (slot_of event)); may = legal.0 }
up_to past (x ∷ before) after slots event left legal =
    subst (λ (es : List SlotEvent). UpTo es event) (append_assoc past (x ∷ []) before) (up_to (past ++ x ∷ []) before after (after_event slots x) event (step past slots x left legal.0) legal.1)

from_start : (before after : List SlotEvent) (event : SlotEvent) → IsLegal all_free (before ++ event ∷ after) → UpTo before event
from_start before after event legal = up_to [] before after all_free event (λ slot. tt) legal

free_last : (slot : ℕ) (state : Slot) (last : Option SlotEvent) → IsFree state → Left slot state last → IsReply last
free_last slot (Free done) last may left = left
free_last slot (Asked done c) last may left = absurd may
free_last slot (Answered done c answer) last may left = absurd may

asked_last : (slot : ℕ) (state : Slot) (last : Option SlotEvent) (question : Result Command Answer) (answer : Answer) → MayExecute state question answer → Left slot state last → (c : Command) × (question ≡ Ok c) × (last ≡ Some (Submitted slot c)) × Answers (Ok c) answer
asked_last slot (Free done) last question answer may left = absurd may
asked_last slot (Asked done c) last question answer may left = (c, may.0, left, subst (λ (q : Result Command Answer). Answers q answer) may.0 may.1)
asked_last slot (Answered done c given) last question answer may left = absurd may

answered_last : (slot : ℕ) (state : Slot) (last : Option SlotEvent) (c : Command) (answer : Answer) → MayRead state c answer → Left slot state last → last ≡ Some (Executed slot (Ok c) answer)
answered_last slot (Free done) last c answer may left = absurd may
answered_last slot (Asked done d) last c answer may left = absurd may
answered_last slot (Answered done d given) last c answer may left = left ∙ ap (λ (x : Command). Some (Executed slot (Ok x) given)) (sym may.0) ∙ ap (λ (a : Answer). Some (Executed slot (Ok c) a)) (sym may.1)

pub keeps_questions : KeepsQuestions
keeps_questions = record {
  asked = λ before after slot c legal.
      let u = from_start before after (Submitted slot c) legal in
      free_last slot u.state (last_of slot before) u.may u.left;
  executed = λ before after slot question answer legal.
      let u = from_start before after (Executed slot question answer) legal in
      asked_last slot u.state (last_of slot before) question answer u.may u.left;
  replied = λ before after slot c answer legal.
      let u = from_start before after (Replied slot c answer) legal in
      answered_last slot u.state (last_of slot before) c answer u.may u.left;
}
