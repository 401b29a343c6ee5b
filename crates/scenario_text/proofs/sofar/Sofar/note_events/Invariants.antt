-- The limits of the event queues passed so far were noted.
use Rattle.scenario_text.specs.Sofar.{view_of}
use Rattle.scenario_text.proofs.Events.{Noted}
use Rattle.scenario_text.proofs.sofar.Sofar.note_events.Given as goal

abbrev pub invariant-loop-eq : goal.invariant-loop-eq
invariant-loop-eq l = Noted (view_of l.fn.self) (view_of l.self) l.eq
