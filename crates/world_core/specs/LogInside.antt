-- How the fields of a log are seen, and what they keep.
use Rattle.std.specs.Prelude.{◌≤◌, length, vec_capacity}
use Rattle.world_core.specs.declared.log.Log.TheInside.{Inside}
use Rattle.world_core.specs.Log.{LogView}

abbrev pub log_view : Inside → LogView
log_view a = record { turns = a.turns.items; marks = a.marks.items; notes = a.notes.items; capacity = a.most }

-- there is room for the turns to come, and for a mark and a note of each
pub record IsLog (a : Inside) : Type 0 where
  pub turns : a.most ≤ vec_capacity a.turns
  pub marks : a.most ≤ vec_capacity a.marks
  pub notes : a.most ≤ vec_capacity a.notes
  pub few_marks : length a.marks.items ≤ length a.turns.items
  pub few_notes : length a.notes.items ≤ length a.turns.items
