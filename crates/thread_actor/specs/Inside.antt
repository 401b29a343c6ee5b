-- How the fields of a thread are seen.
use Rattle.thread_actor.specs.declared.thread.Thread.{Thread}
use Rattle.thread_actor.specs.declared.sides.Sides.{Sides}
use Rattle.thread_actor.specs.Sides.{SidesView}
use Rattle.thread_actor.specs.View.{ThreadView}

abbrev pub sides_of : Sides → SidesView
sides_of s = record { sends = s.sends.items; receives = s.receives.items; polls = s.polls.items }

abbrev pub view_of : Thread → ThreadView
view_of t = record {
  lines = t.lines.value;
  number = t.number;
  program = t.calls;
  finished = t.progress.finished;
  taken = t.progress.taken;
  given = t.given;
  sides = sides_of t.sides;
  ended = t.ended;
}
