-- What a poster is to a caller, and what a turn of it does.
use Rattle.std.specs.Prelude.{ℕ, ◌≡◌, ◌+◌, ◌-◌, ◌<◌, ◌==◌, List, length, true, Option, Some, None, if◌then◌else◌}
use Rattle.bus_core.specs.declared.operation.BusEntry.{BusEntry}
use Rattle.bus_core.specs.declared.turn.Step.{Step}
use Rattle.bus_core.specs.declared.turn.Step.TheVariants.{More, Done}
use Rattle.bus_core.specs.Operation.{loaded}
use Rattle.srq_list.specs.declared.place.SrqPlace.{SrqPlace}
use Rattle.srq_list.specs.declared.poster.SrqPosted.{SrqPosted}
use Rattle.srq_list.specs.declared.poster.SrqPosted.TheVariants as answers
use Rattle.srq_list.specs.Place.{touches, max_post}
use Rattle.srq_list.specs.Queue.{SrqEvent, Wrote}
use Rattle.srq_list.specs.Mark.{SrqMark, Begin, Fill, Ring, Foreign}
use Rattle.srq_list.specs.Poster.{Stage, Ready, Following, Storing, Naming, Poster, MayPost, after_post, post_says, dropped}
use Rattle.srq_list.specs.Turn.{task_after}

pub data PosterTask : Type 0 where
  -- of an entry of these words, with this id
  Post : (words : List ℕ) (id : ℕ) → PosterTask
  Doorbell : PosterTask

pub record PosterView : Type 0 where
  pub place : SrqPlace
  -- the first count of the record
  pub start : ℕ
  pub side : Poster
  pub task : Option PosterTask
  -- how many slots were freed, as far as the tail word that was loaded last shows it, at first 0
  pub seen : ℕ

-- what its next operation is about
abbrev pub post_mark : Poster → Stage → SrqMark
post_mark p Ready = Begin p.written p.head
post_mark p _ = Fill

abbrev pub mark_of : Option PosterTask → Poster → SrqMark
mark_of None p = Foreign
mark_of (Some (Post words id)) p = post_mark p p.stage
mark_of (Some Doorbell) p = Ring p.written p.head

abbrev pub next_mark : PosterView → SrqMark
next_mark p = mark_of p.task p.side

-- what it answers: a post that it is full exactly where the tail word is the head, and else that it wrote, at the id; a ring that it rang, at the record
abbrev pub fill_answer : Stage → Step (Unit {0}) SrqPosted
fill_answer (Naming next words) = Done answers.Wrote
fill_answer _ = More

abbrev pub post_answer : Stage → SrqMark → BusEntry → Step (Unit {0}) SrqPosted
post_answer stage (Begin pending slot) e = if loaded e == slot then Done (answers.Full slot) else More
post_answer stage (Ring pending slot) e = Done answers.Rung
post_answer stage _ e = fill_answer stage

-- a receive that was written has the words and the id of the post
abbrev pub WritesTask : Option PosterTask → ℕ → Step (Unit {0}) SrqPosted → Option SrqEvent → Type 0
WritesTask (Some (Post words id)) head (Done answers.Wrote) said = said ≡ Some (Wrote (record { slot = head; words = words; id = id }))
WritesTask _ head answer said = Unit {0}

-- a tail word that is the head shows how many slots were freed: all but `max_post` of those that were used; another one shows one more at least
abbrev pub seen_after : SrqPlace → ℕ → SrqMark → ℕ → BusEntry → ℕ
seen_after place rung (Begin pending slot) seen e = if loaded e == slot then rung + pending - max_post place else rung + pending + 1 - max_post place
seen_after place rung _ seen e = seen

-- how many turns the task still takes
abbrev pub stage_turns : Stage → ℕ
stage_turns Ready = 18
stage_turns Following = 17
stage_turns (Storing next words) = 16 - length words
stage_turns (Naming next words) = 1

abbrev pub turns_left : Option PosterTask → Stage → ℕ
turns_left None stage = 0
turns_left (Some task) stage = stage_turns stage

-- one operation, which keeps the poster's rule
pub record PosterTurn (old new : PosterView) (e : BusEntry) (answer : Step (Unit {0}) SrqPosted) : Type 0 where
  pub may : MayPost old.place old.start old.side (next_mark old) e
  pub inside : touches old.place e.addr ≡ true
  pub side : new.side ≡ after_post old.place old.side (next_mark old) e
  pub answer_is : answer ≡ post_answer old.side.stage (next_mark old) e
  pub writes : WritesTask old.task old.side.head answer (post_says old.side (next_mark old) e)
  pub task : new.task ≡ task_after old.task answer
  pub fewer : turns_left new.task new.side.stage < turns_left old.task old.side.stage
  pub seen : new.seen ≡ seen_after old.place old.side.rung (next_mark old) old.seen e
  pub place : new.place ≡ old.place
  pub start : new.start ≡ old.start

-- the poster's side before its first operation: the first slot is the head
abbrev pub fresh_side : Poster
fresh_side = record { rung = 0; first = 0; written = 0; head = 0; stage = Ready }

abbrev pub fresh : SrqPlace → ℕ → PosterView
fresh place start = record { place = place; start = start; side = fresh_side; task = None; seen = 0 }

-- an idle poster that has written only what was rung
abbrev pub forgotten : PosterView → PosterView
forgotten p = record p { side = dropped p.side; task = None }
