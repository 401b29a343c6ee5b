-- What ties the words, the hosts, the device and what the slots stand for, and what keeps it.
use Rattle.std.proofs.Common.{◌≡◌, ◌≢◌, ℕ, ◌+◌, ◌%◌, ◌<◌, ◌≤◌, inl, inr, ap, sym, ◌∙◌, subst, arith, Bool, true, false, List, [], length, take, Option, Some, None, Result, Ok}
use Rattle.std.specs.Bool.{MatchBool}
use Rattle.std.specs.Int.{bit_at}
use Rattle.std.proofs.lemmas.Bool.Decides.{eqb_tells}
use Rattle.bus_core.specs.Trace.{Memory}
use Rattle.cmd_bodies.specs.declared.command.Command.{Command}
use Rattle.cmd_bodies.specs.Reply.{listed_of}
use Rattle.cmd_slots.specs.declared.answer.Answer.{Answer}
use Rattle.cmd_slots.specs.declared.answer.Answer.TheVariants.{Delivered, Refused}
use Rattle.cmd_slots.specs.Place.{IsSlot, bits_word, entry_word, touches}
use Rattle.cmd_slots.specs.Family.{put}
use Rattle.cmd_slots.specs.Question.{IsQuestion, question_word}
use Rattle.cmd_slots.specs.Answer.{Answers, IsAnswer, answer_word, output_words}
use Rattle.cmd_slots.specs.Slot.{Slot, Free, Asked, Answered, SlotEvent, MayHappen, after_event}
use Rattle.cmd_slots.specs.Host.{HostStage, Resting, Filling, Awaiting, Taking, Asker}
use Rattle.cmd_slots.specs.Device.{ServeStage, Reading, Judged, Storing, Server, Adapter}
use Rattle.cmd_slots.proofs.Orders.{Stored, Stored_kept}
use Rattle.cmd_slots.specs.Turn.{IsShape}
use Rattle.cmd_slots.proofs.Places.{IsOwn, question_own, answer_own, entry_own, touches_own, touches_bits}
use Rattle.cmd_slots.proofs.Questions.{question_whole}
use Rattle.cmd_slots.proofs.Outputs.{listed_few}

pub question_shape : (slot : ℕ) (c : Command) (words : List ℕ) → IsQuestion slot c words → IsShape words
question_shape slot c words is = (question_whole slot c words is).shape

-- an answer to a command fills at most two blocks
pub answer_short : (entry : List ℕ) (c : Command) (answer : Answer) (words : List ℕ) → Answers (Ok c) answer → IsAnswer entry answer words → (3 ≤ length words) × (length words ≤ 147)
answer_short entry c (Delivered r) words fits is = let few = listed_few c r fits in (omega (arith, is.long), omega (arith, is.long, few))
answer_short entry c (Refused fault) words fits is = absurd fits

-- so many words of a question are stored
pub record Fills (m : Memory) (slot : ℕ) (c : Command) (words : List ℕ) (count : ℕ) : Type 0 where
  pub question : IsQuestion slot c words
  pub few : count ≤ length words
  pub held : Stored (question_word slot words) m 8 words count

abbrev pub HostFits : Memory → ℕ → HostStage → Type 0
HostFits m slot Resting = Unit {0}
HostFits m slot (Filling c words count) = Fills m slot c words count
HostFits m slot _ = ⊥

-- a question that is read, so far to these words
pub record Reads (m : Memory) (slot : ℕ) (c : Command) (ws : List ℕ) : Type 0 where
  pub words : List ℕ
  pub question : IsQuestion slot c words
  pub held : Stored (question_word slot words) m 8 words (length words)
  pub part : ws ≡ take (length ws) words
  pub more : length ws < length words

-- so many words of an answer are stored
pub record Gives (m : Memory) (slot : ℕ) (c : Command) (entry : List ℕ) (question : Result Command Answer) (answer : Answer) (words : List ℕ) (count : ℕ) : Type 0 where
  pub read : question ≡ Ok c
  pub fits : Answers (Ok c) answer
  pub spells : IsAnswer entry answer words
  pub more : count < length words
  pub held : Stored (answer_word slot) m 3 words count

abbrev pub ServerFits : Memory → ℕ → Command → ServeStage → Type 0
ServerFits m slot c (Reading ws) = Reads m slot c ws
ServerFits m slot c (Judged entry question) = question ≡ Ok c
ServerFits m slot c (Storing entry question answer words count) = Gives m slot c entry question answer words count

-- an answer that is read, so far to these words
abbrev pub Takes : Answer → List ℕ → List ℕ → Type 0
Takes (Delivered r) words ws = (ws ≡ take (length ws) (output_words words (listed_of r))) × (length ws < length (output_words words (listed_of r)))
Takes (Refused fault) words ws = ⊥

abbrev pub TakeFits : Command → Answer → List ℕ → HostStage → Type 0
TakeFits c answer words (Awaiting d) = d ≡ c
TakeFits c answer words (Taking d ws) = (d ≡ c) × Takes answer words ws
TakeFits c answer words _ = ⊥

-- the answer stands in the slot's words
pub record Given (m : Memory) (slot : ℕ) (c : Command) (answer : Answer) (stage : HostStage) : Type 0 where
  pub entry : List ℕ
  pub words : List ℕ
  pub fits : Answers (Ok c) answer
  pub spells : IsAnswer entry answer words
  pub held : Stored (answer_word slot) m 3 words (length words)
  pub host : TakeFits c answer words stage

-- the bit stands in the word, or the device found it
abbrev pub Rung : Bool → ℕ → Type 0
Rung found bit = MatchBool found (bit ≡ 0) (bit ≡ 1)

pub record FreeTied (m : Memory) (slot : ℕ) (found : Bool) (h : Asker) (s : Server) (done : ℕ) : Type 0 where
  pub asked_is : h.asked ≡ done
  pub answered_is : s.answered ≡ done
  pub silent : found ≡ false
  pub clear : bit_at (m bits_word) slot ≡ 0
  pub host : HostFits m slot h.stage
  pub server : s.stage ≡ Reading []

pub record AskedTied (m : Memory) (slot : ℕ) (found : Bool) (h : Asker) (s : Server) (done : ℕ) (c : Command) : Type 0 where
  pub asked_is : h.asked ≡ done + 1
  pub answered_is : s.answered ≡ done
  pub rung : Rung found (bit_at (m bits_word) slot)
  -- the entry is the hardware's
  pub owned : m (entry_word slot 7) % 2 ≡ 1
  pub host : h.stage ≡ Awaiting c
  pub server : ServerFits m slot c s.stage

pub record AnsweredTied (m : Memory) (slot : ℕ) (found : Bool) (h : Asker) (s : Server) (done : ℕ) (c : Command) (answer : Answer) : Type 0 where
  pub asked_is : h.asked ≡ done + 1
  pub answered_is : s.answered ≡ done + 1
  pub silent : found ≡ false
  pub clear : bit_at (m bits_word) slot ≡ 0
  pub server : s.stage ≡ Reading []
  pub given : Given m slot c answer h.stage

abbrev pub SlotTied : Memory → ℕ → Bool → Asker → Server → Slot → Type 0
SlotTied m slot found h s (Free done) = FreeTied m slot found h s done
SlotTied m slot found h s (Asked done c) = AskedTied m slot found h s done c
SlotTied m slot found h s (Answered done c answer) = AnsweredTied m slot found h s done c answer

-- all slots together; nothing else speaks of their words
pub record Tied (m : Memory) (d : Adapter) (hosts : ℕ → Asker) (slots : ℕ → Slot) : Type 0 where
  pub each : (slot : ℕ) → IsSlot slot → SlotTied m slot (d.found slot) (hosts slot) (d.servers slot) (slots slot)

-- two memories that agree on what is one slot's
pub record Same (m m' : Memory) (slot : ℕ) : Type 0 where
  pub own : (x : ℕ) → IsOwn slot x → m' x ≡ m x
  pub bit : bit_at (m' bits_word) slot ≡ bit_at (m bits_word) slot

module _ (m m' : Memory) (slot : ℕ) (same : (x : ℕ) → IsOwn slot x → m' x ≡ m x) where
  question_kept : (c : Command) (words : List ℕ) (count : ℕ) → IsQuestion slot c words → Stored (question_word slot words) m 8 words count → Stored (question_word slot words) m' 8 words count
  question_kept c words count is held = Stored_kept (question_word slot words) m m' 8 words count (λ p inside. same (question_word slot words p) (question_own slot words (question_shape slot c words is) p inside)) held

  answer_kept : (entry : List ℕ) (c : Command) (answer : Answer) (words : List ℕ) (count : ℕ) → Answers (Ok c) answer → IsAnswer entry answer words → Stored (answer_word slot) m 3 words count → Stored (answer_word slot) m' 3 words count
  answer_kept entry c answer words count fits is held = Stored_kept (answer_word slot) m m' 3 words count (λ p inside. same (answer_word slot p) (answer_own slot p (omega (arith, inside, (answer_short entry c answer words fits is).1)))) held

  pub HostFits_kept : (stage : HostStage) → HostFits m slot stage → HostFits m' slot stage
  HostFits_kept Resting h = tt
  HostFits_kept (Filling c words count) h = record { question = h.question; few = h.few; held = question_kept c words count h.question h.held }
  HostFits_kept (Awaiting c) h = absurd h
  HostFits_kept (Taking c words) h = absurd h

  pub ServerFits_kept : (c : Command) (stage : ServeStage) → ServerFits m slot c stage → ServerFits m' slot c stage
  ServerFits_kept c (Reading ws) h = record { words = h.words; question = h.question; held = question_kept c h.words (length h.words) h.question h.held; part = h.part; more = h.more }
  ServerFits_kept c (Judged entry question) h = h
  ServerFits_kept c (Storing entry question answer words count) h = record { read = h.read; fits = h.fits; spells = h.spells; more = h.more; held = answer_kept entry c answer words count h.fits h.spells h.held }

  pub Given_kept : (c : Command) (answer : Answer) (stage : HostStage) → Given m slot c answer stage → Given m' slot c answer stage
  Given_kept c answer stage g = record { entry = g.entry; words = g.words; fits = g.fits; spells = g.spells; held = answer_kept g.entry c answer g.words (length g.words) g.fits g.spells g.held; host = g.host }

-- what leaves a slot's words and its bit alone keeps it
pub SlotTied_kept : (m m' : Memory) (slot : ℕ) (found : Bool) (h : Asker) (s : Server) (state : Slot) → Same m m' slot → SlotTied m slot found h s state → SlotTied m' slot found h s state
SlotTied_kept m m' slot found h s (Free done) same t = record { asked_is = t.asked_is; answered_is = t.answered_is; silent = t.silent; clear = same.bit ∙ t.clear; host = HostFits_kept m m' slot same.own h.stage t.host; server = t.server }
SlotTied_kept m m' slot found h s (Asked done c) same t = record {
  asked_is = t.asked_is;
  answered_is = t.answered_is;
  rung = subst (Rung found) (sym same.bit) t.rung;
  owned = ap (λ w. w % 2) (same.own (entry_word slot 7) (entry_own slot 7 (omega arith))) ∙ t.owned;
  host = t.host;
  server = ServerFits_kept m m' slot same.own c s.stage t.server;
}
SlotTied_kept m m' slot found h s (Answered done c answer) same t = record { asked_is = t.asked_is; answered_is = t.answered_is; silent = t.silent; clear = same.bit ∙ t.clear; server = t.server; given = Given_kept m m' slot same.own c answer h.stage t.given }

-- what leaves the slots' words alone keeps them all
pub Tied_kept : (m m' : Memory) (d : Adapter) (hosts : ℕ → Asker) (slots : ℕ → Slot) → ((x : ℕ) → touches x ≡ true → m' x ≡ m x) → Tied m d hosts slots → Tied m' d hosts slots
Tied_kept m m' d hosts slots same t = record {
  each = λ slot ok. SlotTied_kept m m' slot (d.found slot) (hosts slot) (d.servers slot) (slots slot)
      (record { own = λ x own. same x (touches_own slot x ok own); bit = ap (λ w. bit_at w slot) (same bits_word touches_bits) }) (t.each slot ok);
}

-- a family with one value changed
pub put_here : {X : Type 0} (P : X → Type 0) (family : ℕ → X) (slot : ℕ) (value : X) (other : ℕ) → slot ≡ other → P value → P (put family slot value other)
put_here P family slot value other same new = elim (eqb_tells slot other) [ inl t ↦ rw t.0 new | inr t ↦ absurd (t.1 same) ]

pub put_there : {X : Type 0} (P : X → Type 0) (family : ℕ → X) (slot : ℕ) (value : X) (other : ℕ) → slot ≢ other → P (family other) → P (put family slot value other)
put_there P family slot value other differ old = elim (eqb_tells slot other) [ inl t ↦ absurd (differ t.1) | inr t ↦ rw t.0 old ]

-- what an operation makes of all slots, with what it says
abbrev pub Goes : Memory → Adapter → (ℕ → Asker) → (ℕ → Slot) → Option SlotEvent → Type 0
Goes m d hosts slots None = Tied m d hosts slots
Goes m d hosts slots (Some event) = MayHappen slots event × Tied m d hosts (after_event slots event)
