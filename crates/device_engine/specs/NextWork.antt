-- What comes after an operation on a queue pair.
use Rattle.std.specs.Prelude.{ℕ, ◌+◌, ◌==◌, ◌&&◌, nat_lt, if◌then◌else◌, Bool, true, false, List, Option, Some, None}
use Rattle.bus_core.specs.declared.operation.BusEntry.{BusEntry}
use Rattle.bus_core.specs.declared.turn.Note.{Note}
use Rattle.bus_core.specs.declared.turn.Step.{Step}
use Rattle.bus_core.specs.declared.turn.Step.TheVariants.{Done}
use Rattle.bus_core.specs.Operation.{loaded}
use Rattle.verbs_types.specs.declared.completion.Queue.TheVariants.{Send}
use Rattle.verbs_types.specs.declared.entry.What.TheVariants.{Fetch}
use Rattle.actor_map.specs.Notes.{note_of}
use Rattle.counted_ring.specs.Device.{WqReader}
use Rattle.counted_ring.specs.declared.device.WqSeen.{WqSeen}
use Rattle.counted_ring.specs.declared.device.WqSeen.TheVariants as answers
use Rattle.counted_ring.specs.Place.{shown}
use Rattle.counted_ring.specs.Queue.{WqEvent, Took}
use Rattle.work_entries.specs.declared.units.SendWords.{SendWords}
use Rattle.device_engine.specs.declared.pair.Pair.{Pair}
use Rattle.device_engine.specs.declared.outcome.NextWork.{NextWork}
use Rattle.device_engine.specs.declared.outcome.NextWork.TheVariants.{Same, Record, Read, Publish, Next}
use Rattle.device_engine.specs.declared.outcome.Outcome.{Outcome}
use Rattle.device_engine.specs.Entry.{wants, nop_cqe}

abbrev pub comes_ready : Bool → NextWork
comes_ready true = Read
comes_ready false = Next

-- after a look, and after the record
abbrev pub comes_looked : Bool → WqReader → BusEntry → NextWork
comes_looked may_send r e = if loaded e == r.register then comes_ready (may_send && nat_lt 0 r.ready) else Record

abbrev pub comes_recorded : Bool → WqReader → BusEntry → NextWork
comes_recorded may_send r e = comes_ready (may_send && nat_lt 0 (shown r.next (loaded e)))

-- after a request was taken
abbrev pub comes_asked : Pair → List ℕ → NextWork
comes_asked p words = if wants words then Publish p.send_cq (nop_cqe p.number p.next) else Next

abbrev pub fetch_note : ℕ → ℕ → Note
fetch_note qp number = note_of (Fetch (Send qp) number) number

-- after a word of an entry
abbrev pub told_read : Pair → Option WqEvent → Outcome
told_read p (Some (Took words)) = record { comes = comes_asked p words; note = Some (fetch_note p.number (p.taken + 1)) }
told_read p _ = record { comes = Same; note = None }

-- the entry that an answer to a read gives
abbrev pub entry_of : Step (Unit {0}) WqSeen → Option SendWords
entry_of (Done (answers.Read entry)) = Some entry
entry_of _ = None
