-- That a thread's entries are those of its calls, one call after another, the last perhaps unfinished.
use Rattle.std.specs.Prelude.{ℕ, ◌≡◌, ◌<◌, ◌==◌, if◌then◌else◌, List, [], ◌∷◌, ◌++◌, length, map, take, replicate}
use Rattle.std.specs.List.{flat_map}
use Rattle.bus_core.specs.Follow.{Follows}
use Rattle.verbs_types.specs.declared.request.Item.{Item}
use Rattle.verbs_types.specs.declared.completion.Queue.{Queue}
use Rattle.verbs_types.specs.declared.completion.Completion.{Completion}
use Rattle.verbs_types.specs.declared.call.Call.{Call}
use Rattle.verbs_types.specs.declared.entry.Entry.{Entry}
use Rattle.verbs_types.specs.declared.entry.What.{What}
use Rattle.verbs_types.specs.declared.entry.What.TheVariants.{Post, PostFull, Poll, Retire, Ack}
use Rattle.verbs_rules.specs.Shape.{Shape, Posts, Takes, Once, Until, shape_of}

-- an entry that a thread owes
pub data Due : Type 0 where
  -- the post of this list, or that the queue is full before its end
  Posting : (queue : Queue) (items : List Item) → Due
  -- the post of what was accepted before the queue was full
  Accepting : (queue : Queue) (items : List Item) → Due
  -- a poll for at most `most`
  Polling : (cq most : ℕ) → Due
  -- a poll that takes one
  Draining : (cq : ℕ) → Due
  Retiring : (queue : Queue) → Due
  Acking : (cq : ℕ) → Due

-- what a call of this shape owes
abbrev pub due_in : Shape → List Due
due_in (Posts queue items) = Posting queue items ∷ []
due_in (Takes cq (Once most)) = Polling cq most ∷ []
due_in (Takes cq (Until count)) = replicate count (Draining cq)

-- what a call owes
abbrev pub due_by : Call → List Due
due_by call = due_in (shape_of call)

-- the entry is what was owed
abbrev pub Answers : Due → What → Type 0
Answers (Posting queue items) (Post q posted) = (q ≡ queue) × (posted ≡ items)
Answers (Posting queue items) (PostFull q pending head tail) = (q ≡ queue) × (pending < length items)
Answers (Accepting queue items) (Post q posted) = (q ≡ queue) × (posted ≡ items)
Answers (Polling cq most) (Poll c m completions) = (c ≡ cq) × (m ≡ most)
Answers (Draining cq) (Poll c m completions) = (c ≡ cq) × (m ≡ 1) × (length completions ≡ 1)
Answers (Retiring queue) (Retire q count) = q ≡ queue
Answers (Acking cq) (Ack c index) = c ≡ cq
Answers _ _ = ⊥

-- a poll that took some owes one retirement for each, in order, and then an acknowledgement
abbrev pub settling : ℕ → List Completion → List Due
settling cq [] = []
settling cq (x ∷ xs) = map (λ (y : Completion). Retiring y.queue) (x ∷ xs) ++ Acking cq ∷ []

-- what stays owed after the entry
abbrev pub left_by : Due → What → List Due
left_by (Posting queue items) (PostFull q pending head tail) = if pending == 0 then [] else Accepting queue (take pending items) ∷ []
left_by (Polling cq most) (Poll c m completions) = settling cq completions
left_by (Draining cq) (Poll c m completions) = settling cq completions
left_by _ _ = []

abbrev pub MayAnswer : List Due → What → Type 0
MayAnswer [] what = ⊥
MayAnswer (d ∷ ds) what = Answers d what

abbrev pub after_answer : List Due → What → List Due
after_answer [] what = []
after_answer (d ∷ ds) what = left_by d what ++ ds

-- the entries of one actor, in order
abbrev pub own_entries : ℕ → List Entry → List What
own_entries actor [] = []
own_entries actor (e ∷ history) = if e.actor == actor then e.what ∷ own_entries actor history else own_entries actor history

abbrev pub IsAnswered : List Call → List What → Type 0
IsAnswered calls entries = Follows MayAnswer after_answer (flat_map due_by calls) entries
