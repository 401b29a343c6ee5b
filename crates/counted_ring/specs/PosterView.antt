-- What a poster is to a caller, and what a turn of it does.
use Rattle.std.specs.Prelude.{ℕ, ◌≡◌, ◌-◌, ◌<◌, List, length, Bool, true, false, Option, Some, None}
use Rattle.bus_core.specs.declared.operation.BusEntry.{BusEntry}
use Rattle.bus_core.specs.declared.turn.Step.{Step}
use Rattle.bus_core.specs.declared.turn.Step.TheVariants.{More, Gave, Done}
use Rattle.counted_ring.specs.declared.place.WqPlace.{WqPlace}
use Rattle.counted_ring.specs.declared.poster.Posted.{Posted}
use Rattle.counted_ring.specs.declared.poster.Posted.TheVariants as answers
use Rattle.counted_ring.specs.Place.{touches}
use Rattle.counted_ring.specs.Queue.{WqEvent, Wrote, Full}
use Rattle.counted_ring.specs.Poster.{Stage, Ready, Storing, Naming, Counting, Ringing, Poster, MayPost, MayRing, after_post, after_ring, post_says, ring_says}
use Rattle.counted_ring.specs.Mark.{WqMark, Post, Ring, Foreign}
use Rattle.counted_ring.specs.Rung.{Rung, rung_of, rung_after, back_to}
use Rattle.counted_ring.specs.Turn.{task_after}

pub data PosterTask : Type 0 where
  -- of these words, with this id
  Posting : (words : List ℕ) (id : ℕ) → PosterTask
  Doorbell : PosterTask

pub record PosterView : Type 0 where
  pub place : WqPlace
  pub side : Poster
  -- what was posted at the last ring, at first nothing
  pub rung : Rung
  pub task : Option PosterTask

-- what its next operation is about
abbrev pub mark_of : Option PosterTask → WqMark
mark_of None = Foreign
mark_of (Some (Posting words id)) = Post
mark_of (Some Doorbell) = Ring

-- the rule of an operation with this mark, the side after it, and what it says
abbrev pub MayBring : WqPlace → Poster → WqMark → BusEntry → Type 0
MayBring place p Post e = MayPost place p e
MayBring place p Ring e = MayRing place p e
MayBring place p _ e = ⊥

abbrev pub after_bring : WqPlace → Poster → WqMark → BusEntry → Poster
after_bring place p Post e = after_post place p e
after_bring place p Ring e = after_ring place p
after_bring place p _ e = p

abbrev pub brought : WqPlace → Poster → WqMark → BusEntry → Option WqEvent
brought place p Post e = post_says place p e
brought place p Ring e = ring_says p
brought place p _ e = None

-- what an answer to a task says; a ring says that it rang at its record, and answers after its register
abbrev pub post_answer : List ℕ → ℕ → Step (Unit {0}) Posted → Option WqEvent
post_answer words id More = None
post_answer words id (Gave part) = None
post_answer words id (Done answers.Wrote) = Some (Wrote words id)
post_answer words id (Done answers.Rung) = None
post_answer words id (Done (answers.Full head tail)) = Some (Full head tail)

abbrev pub answer_says : Option PosterTask → Poster → Step (Unit {0}) Posted → Option WqEvent
answer_says None p answer = None
answer_says (Some (Posting words id)) p answer = post_answer words id answer
answer_says (Some Doorbell) p answer = ring_says p

-- what is under way is done exactly where the next operation begins something
abbrev pub is_done : Step (Unit {0}) Posted → Bool
is_done More = false
is_done (Gave part) = false
is_done (Done answer) = true

abbrev pub is_ready : Stage → Bool
is_ready Ready = true
is_ready (Storing words) = false
is_ready (Naming words) = false
is_ready (Counting words id) = false
is_ready Ringing = false

-- how many turns the task still takes
abbrev pub stage_turns : Stage → ℕ
stage_turns Ready = 36
stage_turns (Storing words) = 35 - length words
stage_turns (Naming words) = 2
stage_turns (Counting words id) = 1
stage_turns Ringing = 1

abbrev pub turns_left : Option PosterTask → Stage → ℕ
turns_left None stage = 0
turns_left (Some task) stage = stage_turns stage

-- one operation, which keeps the poster's rule
pub record PosterTurn (old new : PosterView) (e : BusEntry) (answer : Step (Unit {0}) Posted) : Type 0 where
  pub may : MayBring old.place old.side (mark_of old.task) e
  pub inside : touches old.place e.addr ≡ true
  pub side : new.side ≡ after_bring old.place old.side (mark_of old.task) e
  pub says : answer_says old.task old.side answer ≡ brought old.place old.side (mark_of old.task) e
  pub task : new.task ≡ task_after old.task answer
  pub done : is_done answer ≡ is_ready new.side.stage
  pub rung : new.rung ≡ rung_after (mark_of old.task) old.side old.rung
  pub fewer : turns_left new.task new.side.stage < turns_left old.task old.side.stage
  pub place : new.place ≡ old.place

-- a poster of an empty queue, whose first block has this index
abbrev pub fresh_side : ℕ → Poster
fresh_side index = record { count = 0; index = index; first = 0; seen = 0; stage = Ready }

abbrev pub fresh : WqPlace → ℕ → PosterView
fresh place index = record { place = place; side = fresh_side index; rung = rung_of (fresh_side index); task = None }

-- an idle poster that has posted only what was rung; the tail that it loaded it keeps
abbrev pub forgotten : PosterView → PosterView
forgotten p = record p { side = back_to p.rung p.side; task = None }
