-- What an entry says, by the numbers of its note.
use Rattle.std.proofs.Common.{◌≡◌, ℕ, List, length, map, take, min, refl, sym, ap, ◌∙◌, Some}
use Rattle.std.proofs.lemmas.List.{length-map, length-take, take_min}
use Rattle.bus_core.specs.declared.turn.Note.{Note}
use Rattle.verbs_types.specs.declared.call.Call.{Call}
use Rattle.verbs_types.specs.declared.completion.Completion.{Completion}
use Rattle.verbs_types.specs.declared.entry.What.TheVariants.{Poll, Publish}
use Rattle.verbs_types.specs.declared.state.Unpolled.{Unpolled}
use Rattle.verbs_model.specs.Tables.{state_of}
use Rattle.actor_map.specs.declared.note.EntryNumbers.{EntryNumbers}
use Rattle.actor_map.specs.declared.note.EntryNumbers.TheVariants as numbers
use Rattle.actor_map.specs.Notes.{Told}
use Rattle.actor_map.specs.Numbers.{numbers_in, numbers_of}
use Rattle.noted_history.specs.declared.log.Noted.{Noted}
use Rattle.noted_history.specs.declared.teller.Teller.{Teller}
use Rattle.noted_history.specs.Telling.{Tells}
use Rattle.noted_history.proofs.ByNumbers.{numbers_told, poll_by_numbers, publish_by_numbers}
use Rattle.noted_history.proofs.Moves.{moves_quiet, quiet_poll, quiet_publish}
use Rattle.noted_history.proofs.teller.Teller.what.Goals as goal

-- as many as were taken are the front of the oldest
taken_front : (us : List Unpolled) (xs : List Completion) (most count : ℕ) → xs ≡ map (λ (u : Unpolled). u.completion) (take most us) → count ≡ length xs → map (λ (u : Unpolled). u.completion) (take count us) ≡ xs
taken_front us xs most count front long =
    let many : count ≡ min most (length us) = long ∙ (ap length front ∙ simp (length-map, length-take)) in
    ap (λ n. map (λ (u : Unpolled). u.completion) (take n us)) many ∙ (ap (map (λ (u : Unpolled). u.completion)) (take_min most us) ∙ sym front)

-- the numbers of the note are those of the entry that it tells
entry_numbers : (t : Teller) (programs : List (List Call)) (actor : ℕ) (note : Note) (e : Told) (n : EntryNumbers) → Tells t programs (record { actor = actor; note = note }) e → numbers_in note ≡ Some n → numbers_of e.entry.what e.seen ≡ Some n
entry_numbers t programs actor note e n told has = sym (numbers_told note e.entry.what e.seen (ap (λ (n : Noted). n.note) told.noted)) ∙ has

pub returns-in_ok-completions-in-Some-Poll : goal.returns-in_ok-completions-in-Some-Poll
returns-in_ok-completions-in-Some-Poll c = λ e told.
    let at = c.in-Some-Poll in
    let t = c.args.self.now in
    let v = state_of t.state in
    let has : numbers_in c.args.note ≡ Some (numbers.Poll at.cq at.most at.taken at.field-0-3) = sym c.of.ensures ∙ (at.is ∙ ap Some at.field-0-is) in
    let poll = poll_by_numbers v e.entry.actor e.entry.what e.seen at.cq at.most at.taken at.field-0-3 (entry_numbers t c.args.programs.now c.args.actor c.args.note e (numbers.Poll at.cq at.most at.taken at.field-0-3) told has) told.may in
    let taken : c.from_vec.result ≡ poll.completions = c.from_vec.ensures ∙ (c.in_ok-completions-in-Some-Poll.ensures ∙ taken_front (v.unpolled at.cq) poll.completions at.most at.taken poll.may.front poll.taken_are) in
    record {
      what_is = ap (Poll at.cq at.most) taken ∙ sym poll.what_is;
      same_state = refl;
      moves = moves_quiet c.args.programs.now t.postings.items e.entry (quiet_poll e.entry.what at.cq at.most poll.completions poll.what_is);
    }

pub returns-in-Some-Publish : goal.returns-in-Some-Publish
returns-in-Some-Publish c = λ e told.
    let at = c.in-Some-Publish in
    let t = c.args.self.now in
    let has : numbers_in c.args.note ≡ Some (numbers.Publish at.cq at.field-0-1) = sym c.of.ensures ∙ (at.is ∙ ap Some at.field-0-is) in
    let publish = publish_by_numbers (state_of t.state) e.entry.actor e.entry.what e.seen at.cq at.field-0-1 (entry_numbers t c.args.programs.now c.args.actor c.args.note e (numbers.Publish at.cq at.field-0-1) told has) told.may in
    let owed = c.owed_completion.ensures at.cq publish.may.first publish.may.others publish.may.owed ∙ sym publish.may.content in
    record {
      what_is = ap (Publish at.cq) owed ∙ sym publish.what_is;
      same_state = refl;
      moves = moves_quiet c.args.programs.now t.postings.items e.entry (quiet_publish e.entry.what at.cq publish.completion publish.what_is);
    }
