-- The rule of a thread, over its own operations: it makes the calls of its program one after another, and at last sets
-- its bit in the word of ended actors.
use Rattle.std.specs.Prelude.{ℕ, ◌≡◌, ◌^◌, true, false, List, [], ◌∷◌, length, Option, None}
use Rattle.bus_core.specs.Mark.{Marked}
use Rattle.bus_core.specs.Operation.{IsSetBits}
use Rattle.verbs_types.specs.declared.call.Call.{Call}
use Rattle.verbs_types.specs.declared.declaration.Lines.{Lines}
use Rattle.verbs_types.specs.declared.entry.What.{What}
use Rattle.verbs_rules.specs.Shape.{Shape, Posts, Takes, shape_of, most_of}
use Rattle.object_places.specs.Objects.{Mark, Ends}
use Rattle.object_places.specs.declared.ended.TheConstants.{ENDED_WORD}
use Rattle.actor_rules.specs.Thread.{Thread}
use Rattle.actor_rules.specs.Posting.{MayPost, after_post, post_says, post_sees}
use Rattle.actor_rules.specs.Polling.{MayPoll, after_poll, poll_says, told_by, poll_sees, calls_after}

-- the bit of a thread in the word of ended actors
pub record MayEnd (t : Thread) (number : ℕ) (x : Marked Mark) : Type 0 where
  pub going : t.ended ≡ false
  pub mark_is : x.mark ≡ Ends
  pub sets : IsSetBits ENDED_WORD (2 ^ number) x.entry

abbrev pub ended : Thread → Thread
ended t = record t { ended = true }

-- in a call of this shape
abbrev pub MayIn : Lines → Thread → Shape → Marked Mark → Type 0
MayIn d t (Posts queue items) x = MayPost d t queue items x
MayIn d t (Takes cq taking) x = MayPoll d t cq (most_of taking) x

abbrev pub MayCall : Lines → Thread → ℕ → List Call → Marked Mark → Type 0
MayCall d t number [] x = MayEnd t number x
MayCall d t number (call ∷ rest) x = MayIn d t (shape_of call) x

abbrev pub MayThread : Lines → Thread → ℕ → Marked Mark → Type 0
MayThread d t number x = MayCall d t number t.calls x

abbrev pub after_in : Lines → Thread → Shape → List Call → Marked Mark → Thread
after_in d t (Posts queue items) rest x = after_post d t queue items x.entry rest
after_in d t (Takes cq taking) rest x = after_poll d t cq (most_of taking) x (calls_after cq taking t.calls rest)

abbrev pub after_call : Lines → Thread → List Call → Marked Mark → Thread
after_call d t [] x = ended t
after_call d t (call ∷ rest) x = after_in d t (shape_of call) rest x

abbrev pub after_thread : Lines → Thread → Marked Mark → Thread
after_thread d t x = after_call d t t.calls x

abbrev pub says_in : Lines → Thread → Shape → Marked Mark → Option What
says_in d t (Posts queue items) x = post_says d t queue items x.entry
says_in d t (Takes cq taking) x = told_by taking (poll_says d t cq (most_of taking) x)

abbrev pub call_says : Lines → Thread → List Call → Marked Mark → Option What
call_says d t [] x = None
call_says d t (call ∷ rest) x = says_in d t (shape_of call) x

abbrev pub thread_says : Lines → Thread → Marked Mark → Option What
thread_says d t x = call_says d t t.calls x

-- the count of another actor that the thread has seen by then
abbrev pub sees_in : Lines → Thread → Shape → Marked Mark → ℕ
sees_in d t (Posts queue items) x = post_sees d t queue (length items) x.entry
sees_in d t (Takes cq taking) x = poll_sees d t cq (most_of taking) x

abbrev pub call_sees : Lines → Thread → List Call → Marked Mark → ℕ
call_sees d t [] x = 0
call_sees d t (call ∷ rest) x = sees_in d t (shape_of call) x

abbrev pub thread_sees : Lines → Thread → Marked Mark → ℕ
thread_sees d t x = call_sees d t t.calls x
