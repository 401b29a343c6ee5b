-- From note to note.
use Rattle.std.proofs.Common.{◌≡◌, ℕ, ◌+◌, ◌<◌, List, [], ◌∷◌, ◌++◌, length, drop, get_or, sym, ap, subst, ◌∙◌, rules}
use Rattle.std.proofs.lemmas.List.{length-replicate, drop_more, drop_all}
use Rattle.verbs_types.specs.declared.call.Call.{Call}
use Rattle.verbs_types.specs.declared.entry.Entry.{Entry}
use Rattle.actor_map.specs.Notes.{Told}
use Rattle.verbs_model.specs.Tables.{state_of}
use Rattle.noted_history.specs.declared.log.Noted.{Noted}
use Rattle.noted_history.specs.declared.posting.Posting.{Posting}
use Rattle.noted_history.specs.declared.teller.Teller.{Teller}
use Rattle.noted_history.specs.Telling.{Takes}
use Rattle.noted_history.specs.OfNotes.{HasNotes}
use Rattle.noted_history.proofs.Standing.{Stands, stands_first, IsNextOf, next_of, stands_next, all_told}
use Rattle.noted_history.proofs.entries.history_of.Goals as goal

pub loop-noted-init : goal.loop-noted-init
loop-noted-init c =
    let programs = c.args.programs.now in
    let teller = c.in_ok-teller.teller in
    let fresh = c.in_ok-teller.ensures in (
      ap (λ (ps : List Posting). length ps) fresh.1 ∙ length-replicate {A = Posting} (length programs) (record { behind = 0 }),
      λ h told. subst (λ (es : List Entry). Stands teller programs c.args.notes.now es h) (sym c.new-history.ensures.items)
          (stands_first teller programs c.args.notes.now (state_of c.args.first) (length programs) h told (ap state_of fresh.0) fresh.1),
    )

at_note : (t : Teller) (programs : List (List Call)) (notes : List Noted) (i : ℕ) (n : Noted) (history : List Entry) (h : List Told) → i < length notes → Stands t programs (drop i notes) history h → Stands t programs (get_or notes i n ∷ drop (i + 1) notes) history h
at_note t programs notes i n history h inside = subst (λ (ns : List Noted). Stands t programs ns history h) (drop_more notes i n inside)

-- the note at a place, and a default past the end
abbrev none_noted : Noted
none_noted = record { actor = 0; note = record { kind = 0; object = 0; a = 0; b = 0; c = 0; d = 0 } }

pub entry-requires : goal.entry-requires
entry-requires c =
    let teller = c.loop-noted.teller in
    let programs = c.args.programs.now in
    let notes = c.args.notes.now in
    let i = c.loop-noted.noted-index in
    let history = c.loop-noted.history.items in
    let h = c.requires.told.0 in
    let stands = at_note teller programs notes i none_noted history h c.loop-noted-test.true (c.loop-noted.invariant.1 h c.requires.told.1) in
    let next = next_of teller programs (get_or notes i none_noted) (drop (i + 1) notes) history h stands in
    record { threads = c.loop-noted.invariant.0; told = next.told; tells = next.tells }

pub loop-noted-preserved : goal.loop-noted-preserved
loop-noted-preserved c =
    let teller = c.loop-noted.teller in
    let programs = c.args.programs.now in
    let notes = c.args.notes.now in
    let i = c.loop-noted.noted-index in
    let history = c.loop-noted.history.items in
    let n : Noted = get_or notes i none_noted in
    let stands : (h : List Told) → HasNotes (state_of c.args.first) programs notes h → Stands teller programs (n ∷ drop (i + 1) notes) history h = λ h told. at_note teller programs notes i none_noted history h c.loop-noted-test.true (c.loop-noted.invariant.1 h told) in
    let next : (h : List Told) (told : HasNotes (state_of c.args.first) programs notes h) → IsNextOf teller programs n (drop (i + 1) notes) (stands h told).rest = λ h told. next_of teller programs n (drop (i + 1) notes) history h (stands h told) in
    let takes : (h : List Told) (told : HasNotes (state_of c.args.first) programs notes h) → Takes teller c.entry.new.self programs (next h told).told.entry c.in_ok-entry.entry = λ h told. c.in_ok-entry.ensures (next h told).told (next h told).tells in
    let pushed : c.push.new.self.items ≡ history ++ c.in_ok-entry.entry ∷ [] = search rules in (
      (takes c.requires.told.0 c.requires.told.1).moves.threads ∙ c.loop-noted.invariant.0,
      λ h told.
          subst (λ (es : List Entry). Stands c.entry.new.self programs (drop (i + 1) notes) es h) (sym pushed)
          (stands_next teller c.entry.new.self programs n (drop (i + 1) notes) history h (stands h told).rest (next h told) c.in_ok-entry.entry (stands h told).split (takes h told)),
    )

pub returns : goal.returns
returns c = record {
  told = λ h told. all_told c.loop-noted.teller c.args.programs.now c.loop-noted.history.items h
      (subst (λ (ns : List Noted). Stands c.loop-noted.teller c.args.programs.now ns c.loop-noted.history.items h) (drop_all c.loop-noted.noted-index c.args.notes.now c.loop-noted-test.false) (c.loop-noted.invariant.1 h told));
}
