-- The history that notes tell.
use Rattle.std.specs.Prelude.{ℕ, suc, ◌≡◌, List, [], map, slice_index_or}
use Rattle.verbs_types.specs.declared.call.Call.{Call}
use Rattle.verbs_rules.specs.Answered.{IsAnswered, own_entries}
use Rattle.verbs_rules.specs.Legal.{IsLegal}
use Rattle.verbs_rules.specs.State.{Verbs}
use Rattle.actor_map.specs.Notes.{Told, AllServe, entries_of, note_told}
use Rattle.noted_history.specs.declared.log.Noted.{Noted}

-- the note of an entry with what its maker saw
abbrev pub noted_of : Told → Noted
noted_of t = record { actor = t.entry.actor; note = note_told t }

-- A history of these programs that is legal from here on, with what the makers of its entries saw, which serves for them, and of which these are exactly the notes. Thread t runs the program at t - 1.
pub record HasNotes (v : Verbs) (programs : List (List Call)) (notes : List Noted) (told : List Told) : Type 0 where
  pub legal : IsLegal v (entries_of told)
  pub answered : (t : ℕ) → IsAnswered (slice_index_or programs t []) (own_entries (suc t) (entries_of told))
  pub serves : AllServe v told
  pub notes_are : notes ≡ map noted_of told
