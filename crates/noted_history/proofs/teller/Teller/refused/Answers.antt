-- A full queue is that of the next list of its thread.
use Rattle.std.proofs.Common.{◌≡◌, ℕ, suc, ◌-◌, List, refl, sym, ap, ◌∙◌, arith, Some}
use Rattle.bus_core.specs.declared.turn.Note.{Note}
use Rattle.verbs_types.specs.declared.call.Call.{Call}
use Rattle.actor_map.specs.Notes.{Told, note_of}
use Rattle.noted_history.specs.declared.log.Noted.{Noted}
use Rattle.verbs_types.specs.declared.completion.Queue.{Queue}
use Rattle.verbs_types.specs.declared.entry.What.TheVariants.{PostFull}
use Rattle.verbs_model.specs.Tables.{state_of}
use Rattle.actor_map.specs.Numbers.{numbers_in}
use Rattle.actor_map.specs.declared.note.EntryNumbers.TheVariants as numbers
use Rattle.noted_history.specs.declared.teller.Teller.{Teller}
use Rattle.noted_history.specs.Telling.{Tells}
use Rattle.noted_history.proofs.ByNumbers.{IsFull, numbers_told, full_by_numbers, host_above}
use Rattle.noted_history.proofs.Threads.{HasList, list_by_full, are_read, left_here, moves_here, behind_full}
use Rattle.noted_history.proofs.teller.Teller.refused.Goals as goal

-- the full queue that the note tells
module _ (t : Teller) (programs : List (List Call)) (actor : ℕ) (note : Note) (queue : Queue) (pending head tail : ℕ) (has_numbers : numbers_in note ≡ Some (numbers.PostFull queue pending head tail)) (e : Told) (told : Tells t programs (record { actor = actor; note = note }) e) where
  full : IsFull (state_of t.state) e.entry.actor queue pending head tail e.entry.what
  full = full_by_numbers (state_of t.state) e.entry.actor e.entry.what e.seen queue pending head tail (sym (numbers_told note e.entry.what e.seen (ap (λ (n : Noted). n.note) told.noted)) ∙ has_numbers) told.may told.serves

  by_thread : e.entry.actor ≡ suc (actor - 1)
  by_thread = omega (arith, host_above e.entry.actor full.may.host, ap (λ (n : Noted). n.actor) told.noted)

  has : HasList programs t.postings.items (actor - 1)
  has = list_by_full programs t.postings.items (actor - 1) e.entry.what queue pending head tail full.what_is (told.owed (actor - 1) by_thread)

pub index_mut-requires : goal.index_mut-requires
index_mut-requires c =
    let inside = (has c.args.self.now c.args.programs.now c.args.actor c.args.note c.args.queue c.args.pending c.args.head c.args.tail c.requires.numbers c.requires.told.told c.requires.told.tells).inside in
    omega (arith, c.requires.told.threads, c.args.self.now.postings.ok.0)

pub bounds-programs-thread : goal.bounds-programs-thread
bounds-programs-thread c = (has c.args.self.now c.args.programs.now c.args.actor c.args.note c.args.queue c.args.pending c.args.head c.args.tail c.requires.numbers c.requires.told.told c.requires.told.tells).inside

pub refuse-requires : goal.refuse-requires
refuse-requires c =
    let t = c.args.self.now in
    let programs = c.args.programs.now in
    let thread = c.args.actor - 1 in
    let calls = c.as_slice.result.now in
    let p = c.index_mut.result.now in
    let has_one = has t programs c.args.actor c.args.note c.args.queue c.args.pending c.args.head c.args.tail c.requires.numbers c.requires.told.told c.requires.told.tells in
    let same = are_read programs t.postings.items thread calls c.index-programs-thread.result p has_one c.requires.told.threads c.as_slice.ensures c.index-programs-thread.is c.index_mut.ensures.value in
    record { left = left_here programs t.postings.items thread calls p same has_one }

pub returns : goal.returns
returns c = λ e told.
    let t = c.args.self.now in
    let programs = c.args.programs.now in
    let thread = c.args.actor - 1 in
    let calls = c.as_slice.result.now in
    let p = c.index_mut.result.now in
    let refused = full t programs c.args.actor c.args.note c.args.queue c.args.pending c.args.head c.args.tail c.requires.numbers e told in
    let has_one = has t programs c.args.actor c.args.note c.args.queue c.args.pending c.args.head c.args.tail c.requires.numbers e told in
    let same = are_read programs t.postings.items thread calls c.index-programs-thread.result p has_one c.requires.told.threads c.as_slice.ensures c.index-programs-thread.is c.index_mut.ensures.value in
    record {
      what_is = sym refused.what_is;
      same_state = refl;
      moves = moves_here programs t.postings.items thread calls p same c.refuse.new.self e.entry (by_thread t programs c.args.actor c.args.note c.args.queue c.args.pending c.args.head c.args.tail c.requires.numbers e told) (omega (arith, has_one.inside, c.requires.told.threads))
          (behind_full calls p.behind c.refuse.new.self.behind c.args.queue c.args.pending c.args.head c.args.tail e.entry.what refused.what_is c.refuse.ensures);
    }
