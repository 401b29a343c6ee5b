-- What the turns so far made, with one more.
use Rattle.std.proofs.Common.{◌≡◌, ◌∙◌, refl, sym, ap, ℕ, ◌++◌, Bool, List, [], ◌∷◌, map, append-nil, Option, None, Some, is_some, option_map}
use Rattle.std.specs.Option.{option_to_list}
use Rattle.std.proofs.lemmas.List.{map-append}
use Rattle.bus_core.specs.declared.turn.Note.{Note}
use Rattle.bus_core.specs.Mark.{Marked}
use Rattle.bus_core.proofs.Following.{Follows-push}
use Rattle.bus_core.proofs.Spelling.{spelled-push}
use Rattle.verbs_types.specs.declared.entry.Entry.{Entry}
use Rattle.actor_map.specs.Notes.{Told, note_told, with_seen}
use Rattle.object_places.specs.Objects.{Mark}
use Rattle.actor_rules.specs.Actors.{Actors, fresh_actors, after, says, sees_of, tells}
use Rattle.actor_rules.specs.Roles.{MayAny}
use Rattle.actor_rules.specs.Run.{told}
use Rattle.scenario_text.specs.declared.scenario.ScenarioParts.{ScenarioParts}
use Rattle.noted_history.specs.OfNotes.{noted_of}
use Rattle.noted_history.specs.declared.log.Noted.{Noted}
use Rattle.world_core.specs.Holding.{actors_after, MadeTurns}
use Rattle.world_core.specs.Outcome.{Makes, Passes}
use Rattle.world_core.specs.Log.{with_mark, with_note, with_turn}
use Rattle.world_core.proofs.Pushing.{turns_pass, turns_make, marks_push}

-- the note is that of what an actor's operation tells
abbrev pub Fits : ℕ → Option Told → Option Note → Type 0
Fits actor None note = note ≡ None
Fits actor (Some t) note = (actor ≡ t.entry.actor) × (note ≡ Some (note_told t))

notes_one : (notes : List Noted) (actor : ℕ) (now : Option Told) (note : Option Note) → Fits actor now note → with_note notes actor note ≡ notes ++ map noted_of (option_to_list now)
notes_one notes actor None n fits = ap (with_note notes actor) fits ∙ sym (append-nil notes)
notes_one notes actor (Some t) n fits = ap (with_note notes actor) fits.1 ∙ (λ i. notes ++ record { actor = fits.0 i; note = note_told t } ∷ [])

told_some : (seen : ℕ) (said : Option Entry) → is_some (option_map (with_seen seen) said) ≡ is_some said
told_some seen None = refl
told_some seen (Some e) = refl

marks_one : (marks : List Bool) (actor : ℕ) (said : Option Told) (note : Option Note) → Fits actor said note → with_mark marks note ≡ marks ++ is_some said ∷ []
marks_one marks actor None n fits = ap (with_mark marks) fits
marks_one marks actor (Some t) n fits = ap (with_mark marks) fits.1

module _ (s : ScenarioParts) (turns : List ℕ) (marks : List Bool) (notes : List Noted) (trace : List (Marked Mark)) (m : MadeTurns s turns marks notes trace) where
  abbrev first : Actors
  first = fresh_actors s.lines s.programs

  -- the turn of an actor that has ended
  pub made_passes : (actor : ℕ) → Passes (actors_after s.lines s.programs trace) actor → MadeTurns s (with_turn turns actor) marks notes trace
  made_passes actor passes = record {
    keeps = m.keeps;
    turned = turns_pass s.lines turns trace first actor m.turned passes;
    notes = m.notes;
    marks = m.marks;
  }

  -- a turn that makes the next operation
  pub made_moves : (actor : ℕ) (x : Marked Mark) (note : Option Note) → MayAny s.lines (actors_after s.lines s.programs trace) x → Makes (actors_after s.lines s.programs trace) actor x
      → Fits actor (tells s.lines (actors_after s.lines s.programs trace) x) note → MadeTurns s (with_turn turns actor) (with_mark marks note) (with_note notes actor note) (trace ++ x ∷ [])
  made_moves actor x note may makes fits =
      let now : Actors = actors_after s.lines s.programs trace in
      let said : Option Told = tells s.lines now x in record {
        keeps = Follows-push (MayAny s.lines) (after s.lines) first trace x m.keeps may;
        turned = turns_make s.lines turns trace first actor x m.turned makes;
        notes = notes_one notes actor said note fits
            ∙ ap (λ (ns : List Noted). ns ++ map noted_of (option_to_list said)) m.notes
            ∙ sym (map-append noted_of (told s.lines s.programs trace) (option_to_list said))
            ∙ ap (map noted_of) (sym (spelled-push (MayAny s.lines) (after s.lines) (tells s.lines) first trace x));
        marks = marks_one marks actor said note fits
            ∙ (λ i. m.marks i ++ told_some (sees_of s.lines now x.entry.actor x) (says s.lines now x) i ∷ [])
            ∙ sym (marks_push s.lines trace first x);
      }
