-- The entries so far are the front of each history that the notes tell.
use Rattle.std.proofs.Common.{◌≡◌, List, length, drop}
use Rattle.actor_map.specs.Notes.{Told}
use Rattle.verbs_model.specs.Tables.{state_of}
use Rattle.noted_history.specs.OfNotes.{HasNotes}
use Rattle.noted_history.proofs.Standing.{Stands}
use Rattle.noted_history.proofs.entries.history_of.Given as goal

abbrev pub invariant-loop-noted : goal.invariant-loop-noted
invariant-loop-noted l =
    (length l.teller.postings.items ≡ length l.programs)
    × ((h : List Told) → HasNotes (state_of l.fn.first) l.programs l.notes h → Stands l.teller l.programs (drop l.noted-index l.notes) l.history.items h)
