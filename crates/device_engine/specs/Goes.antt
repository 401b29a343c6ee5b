-- What the adapter goes on to.
use Rattle.std.specs.Prelude.{ℕ, Option, Some, None}
use Rattle.bus_core.specs.declared.turn.Note.{Note}
use Rattle.verbs_types.specs.declared.declaration.Lines.{Lines}
use Rattle.cq_pair.specs.Queue.{QueueEvent, Published}
use Rattle.actor_map.specs.Numbers.{note_with}
use Rattle.actor_map.specs.declared.note.EntryNumbers.TheVariants as numbers
use Rattle.device_engine.specs.declared.outcome.NextWork.{NextWork}
use Rattle.device_engine.specs.declared.outcome.NextWork.TheVariants.{Same, Record, Read, Publish, Next, First}
use Rattle.device_engine.specs.declared.outcome.Outcome.{Outcome}
use Rattle.device_engine.specs.State.{AdapterRule, Recording, Reading, Publishing, working, next_visit, first_visit}

abbrev pub goes : Lines → NextWork → AdapterRule → AdapterRule
goes d Same s = s
goes d Record s = working Recording s
goes d Read s = working Reading s
goes d (Publish cq completion) s = working (Publishing cq completion) s
goes d Next s = next_visit d s
goes d First s = first_visit d s

abbrev pub publish_note : ℕ → ℕ → Note
publish_note cq seen = note_with (numbers.Publish cq seen)

-- after an operation of a publication, which saw this acknowledged index
abbrev pub told_published : ℕ → ℕ → Option QueueEvent → Outcome
told_published cq seen None = record { comes = Same; note = None }
told_published cq seen (Some (Published index completion)) = record { comes = Next; note = Some (publish_note cq seen) }
told_published cq seen (Some _) = record { comes = Next; note = None }
