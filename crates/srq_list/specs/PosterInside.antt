-- How the fields of a poster are seen.
use Rattle.std.specs.Prelude.{ℕ, ◌+◌, ◌<◌, ◌≤◌, ◌^◌, List, take, Option, Some, None}
use Rattle.srq_list.specs.declared.place.SrqPlace.{SrqPlace}
use Rattle.srq_list.specs.declared.poster.Phase.{Phase}
use Rattle.srq_list.specs.declared.poster.Phase.TheVariants as phases
use Rattle.srq_list.specs.declared.poster.SrqPoster.TheInside.{Inside}
use Rattle.srq_list.specs.Place.{IsPlace, entry_words}
use Rattle.srq_list.specs.Poster.{Stage, Ready, Following, Storing, Naming}
use Rattle.srq_list.specs.PosterView.{PosterView, PosterTask, Post, Doorbell}

abbrev pub stage_in : SrqPlace → ℕ → List ℕ → Phase → Stage
stage_in place next words phases.Idle = Ready
stage_in place next words phases.Asking = Ready
stage_in place next words phases.Following = Following
stage_in place next words (phases.Storing stored) = Storing next (take stored words)
stage_in place next words phases.Naming = Naming next (take (entry_words place) words)
stage_in place next words phases.Recording = Ready

abbrev pub task_in : List ℕ → ℕ → Phase → Option PosterTask
task_in words id phases.Idle = None
task_in words id phases.Recording = Some Doorbell
task_in words id _ = Some (Post words id)

abbrev pub poster_view : Inside → PosterView
poster_view a = record {
  place = a.place;
  start = a.start;
  side = record { rung = a.rung; first = a.first; written = a.written; head = a.head; stage = stage_in a.place a.next a.words a.phase };
  task = task_in (take (entry_words a.place) a.words) a.id a.phase;
  seen = a.seen;
}

abbrev pub IsAtWork : SrqPlace → ℕ → Phase → Type 0
IsAtWork place count phases.Idle = Unit {0}
IsAtWork place count phases.Recording = Unit {0}
IsAtWork place count (phases.Storing stored) = (count < 2 ^ 62) × (stored < entry_words place)
IsAtWork place count _ = count < 2 ^ 62

pub record IsPoster (a : Inside) : Type 0 where
  pub place_ok : IsPlace a.place
  pub low : a.rung + a.written ≤ 2 ^ 62
  pub work : IsAtWork a.place (a.rung + a.written) a.phase
