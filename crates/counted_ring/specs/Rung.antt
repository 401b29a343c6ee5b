-- What was rung, and what is left where the rest is dropped.
use Rattle.std.specs.Prelude.{ℕ, take}
use Rattle.counted_ring.specs.Mark.{WqMark, Ring}
use Rattle.counted_ring.specs.Poster.{Poster, Stage, Ready, Storing, Naming, Counting, Ringing}
use Rattle.counted_ring.specs.Queue.{Queue, index_of}

-- how many requests were posted at the last ring, the block index of the next one, and the first word of the last one
pub record Rung : Type 0 where
  pub count : ℕ
  pub index : ℕ
  pub first : ℕ

abbrev pub rung_of : Poster → Rung
rung_of p = record { count = p.count; index = p.index; first = p.first }

-- the poster that goes back to its last ring; what it has seen it keeps
abbrev pub back_to : Rung → Poster → Poster
back_to rung p = record { count = rung.count; index = rung.index; first = rung.first; seen = p.seen; stage = Ready }

-- a ring rings for all that was posted up to its record
abbrev pub rung_at : Stage → Poster → Rung → Rung
rung_at Ready p rung = rung_of p
rung_at (Storing words) p rung = rung
rung_at (Naming words) p rung = rung
rung_at (Counting words id) p rung = rung
rung_at Ringing p rung = rung

abbrev pub rung_after : WqMark → Poster → Rung → Rung
rung_after Ring p rung = rung_at p.stage p rung
rung_after _ p rung = rung

-- what is left of a list where the poster drops the requests that it did not ring for
abbrev pub unrung : Queue → Queue
unrung q = record q { requests = take q.rung q.requests; next = index_of q q.rung }
