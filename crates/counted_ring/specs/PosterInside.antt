-- How the fields of a poster are seen.
use Rattle.std.specs.Prelude.{ℕ, ◌≡◌, ◌*◌, ◌<◌, ◌^◌, true, take, slice_index, Option, Some, None}
use Rattle.work_entries.specs.declared.units.SendWords.{SendWords}
use Rattle.counted_ring.specs.declared.place.WqPlace.{WqPlace}
use Rattle.counted_ring.specs.declared.poster.Phase.{Phase}
use Rattle.counted_ring.specs.declared.poster.Phase.TheVariants as phases
use Rattle.counted_ring.specs.declared.poster.Posts.{Posts}
use Rattle.counted_ring.specs.declared.poster.WqPoster.TheInside.{Inside}
use Rattle.counted_ring.specs.Place.{IsPlace, is_send, span, entry_words}
use Rattle.counted_ring.specs.Poster.{Stage, Ready, Storing, Naming, Counting, Ringing, Poster}
use Rattle.counted_ring.specs.PosterView.{PosterView, PosterTask, Posting, Doorbell}
use Rattle.counted_ring.specs.Rung.{Rung}

abbrev pub stage_in : WqPlace → SendWords → ℕ → Phase → Stage
stage_in place entry id phases.Idle = Ready
stage_in place entry id phases.Asking = Ready
stage_in place entry id (phases.Storing stored) = Storing (take stored entry.words)
stage_in place entry id phases.Naming = Naming (entry_words place entry)
stage_in place entry id phases.Counting = Counting (entry_words place entry) id
stage_in place entry id phases.Recording = Ready
stage_in place entry id phases.Ringing = Ringing

abbrev pub task_in : WqPlace → SendWords → ℕ → Phase → Option PosterTask
task_in place entry id phases.Idle = None
task_in place entry id phases.Asking = Some (Posting (entry_words place entry) id)
task_in place entry id (phases.Storing stored) = Some (Posting (entry_words place entry) id)
task_in place entry id phases.Naming = Some (Posting (entry_words place entry) id)
task_in place entry id phases.Counting = Some (Posting (entry_words place entry) id)
task_in place entry id phases.Recording = Some Doorbell
task_in place entry id phases.Ringing = Some Doorbell

abbrev pub side_in : Posts → ℕ → Stage → Poster
side_in posts seen stage = record { count = posts.count; index = posts.index; first = posts.first; seen = seen; stage = stage }

abbrev pub rung_in : Posts → Rung
rung_in posts = record { count = posts.count; index = posts.index; first = posts.first }

abbrev pub poster_view : Inside → PosterView
poster_view a = record {
  place = a.place;
  side = side_in a.posts a.seen (stage_in a.place a.entry a.id a.phase);
  rung = rung_in a.rung;
  task = task_in a.place a.entry a.id a.phase;
}

-- the entry has as many blocks as its first word says
pub record IsEntry (place : WqPlace) (count index : ℕ) (entry : SendWords) : Type 0 where
  pub spans : entry.blocks ≡ span place (slice_index entry.words 0)
  pub count_low : count < 2 ^ 62
  pub index_low : index < 2 ^ 62

abbrev pub IsAtWork : WqPlace → ℕ → ℕ → SendWords → Phase → Type 0
IsAtWork place count index entry phases.Idle = Unit {0}
IsAtWork place count index entry phases.Asking = IsEntry place count index entry
IsAtWork place count index entry (phases.Storing stored) = IsEntry place count index entry × (stored < entry.blocks * place.stride)
IsAtWork place count index entry phases.Naming = IsEntry place count index entry
IsAtWork place count index entry phases.Counting = IsEntry place count index entry × (is_send place ≡ true)
IsAtWork place count index entry phases.Recording = Unit {0}
IsAtWork place count index entry phases.Ringing = is_send place ≡ true

pub record IsPoster (a : Inside) : Type 0 where
  pub place_ok : IsPlace a.place
  pub low_index : a.posts.index < 2 ^ 63
  pub low_rung : a.rung.index < 2 ^ 63
  pub work : IsAtWork a.place a.posts.count a.posts.index a.entry a.phase
