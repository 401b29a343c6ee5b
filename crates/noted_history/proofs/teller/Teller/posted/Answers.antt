-- A post is that of the next list of its thread.
use Rattle.std.proofs.Common.{◌≡◌, ℕ, suc, ◌-◌, List, take, refl, sym, ap, ◌∙◌, arith, Some}
use Rattle.verbs_types.specs.declared.completion.Queue.{Queue}
use Rattle.verbs_types.specs.declared.call.Call.{Call}
use Rattle.actor_map.specs.Notes.{Told, note_of}
use Rattle.noted_history.specs.declared.log.Noted.{Noted}
use Rattle.verbs_types.specs.declared.entry.What.TheVariants.{Post}
use Rattle.verbs_model.specs.Tables.{state_of}
use Rattle.bus_core.specs.declared.turn.Note.{Note}
use Rattle.actor_map.specs.Numbers.{numbers_in}
use Rattle.actor_map.specs.declared.note.EntryNumbers.TheVariants as numbers
use Rattle.noted_history.specs.declared.teller.Teller.{Teller}
use Rattle.noted_history.specs.Telling.{Owes, Tells}
use Rattle.noted_history.proofs.ByNumbers.{IsPost, numbers_told, post_by_numbers, host_above}
use Rattle.noted_history.proofs.Threads.{HasList, list_by_post, AreRead, are_read, left_here, stands_here, moves_here, items_posted, behind_posted}
use Rattle.noted_history.proofs.teller.Teller.posted.Goals as goal

-- the post that the note tells
module _ (t : Teller) (programs : List (List Call)) (actor : ℕ) (note : Note) (queue : Queue) (count seen : ℕ) (has_numbers : numbers_in note ≡ Some (numbers.Post queue count seen)) (e : Told) (told : Tells t programs (record { actor = actor; note = note }) e) where
  post : IsPost (state_of t.state) e.entry.actor queue count e.entry.what
  post = post_by_numbers (state_of t.state) e.entry.actor e.entry.what e.seen queue count seen (sym (numbers_told note e.entry.what e.seen (ap (λ (n : Noted). n.note) told.noted)) ∙ has_numbers) told.may

  by_thread : e.entry.actor ≡ suc (actor - 1)
  by_thread = omega (arith, host_above e.entry.actor post.may.host, ap (λ (n : Noted). n.actor) told.noted)

  owes : Owes programs t.postings.items (actor - 1) e.entry.what
  owes = told.owed (actor - 1) by_thread

  has : HasList programs t.postings.items (actor - 1)
  has = list_by_post programs t.postings.items (actor - 1) e.entry.what queue post.items post.what_is owes

pub bounds-programs-thread : goal.bounds-programs-thread
bounds-programs-thread c = (has c.args.self.now c.args.programs.now c.args.actor c.args.note c.args.queue c.args.count c.requires.numbers.0 c.requires.numbers.1 c.requires.told.told c.requires.told.tells).inside

pub index_mut-requires : goal.index_mut-requires
index_mut-requires c =
    let inside = (has c.args.self.now c.args.programs.now c.args.actor c.args.note c.args.queue c.args.count c.requires.numbers.0 c.requires.numbers.1 c.requires.told.told c.requires.told.tells).inside in
    omega (arith, c.requires.told.threads, c.args.self.now.postings.ok.0)

-- the thread's calls and count
read : (c : goal.After-index_mut) → AreRead c.args.programs.now c.args.self.now.postings.items (c.args.actor - 1) c.as_slice-calls.result.now c.index_mut.result.now
read c = are_read c.args.programs.now c.args.self.now.postings.items (c.args.actor - 1) c.as_slice-calls.result.now c.index-programs-thread.result c.index_mut.result.now
    (has c.args.self.now c.args.programs.now c.args.actor c.args.note c.args.queue c.args.count c.requires.numbers.0 c.requires.numbers.1 c.requires.told.told c.requires.told.tells)
    c.requires.told.threads c.as_slice-calls.ensures c.index-programs-thread.is c.index_mut.ensures.value

pub post-requires : goal.post-requires
post-requires c = record {
  left = left_here c.args.programs.now c.args.self.now.postings.items (c.args.actor - 1) c.as_slice-calls.result.now c.index_mut.result.now (read c)
      (has c.args.self.now c.args.programs.now c.args.actor c.args.note c.args.queue c.args.count c.requires.numbers.0 c.requires.numbers.1 c.requires.told.told c.requires.told.tells);
}

pub returns : goal.returns
returns c = λ e told.
    let t = c.args.self.now in
    let programs = c.args.programs.now in
    let thread = c.args.actor - 1 in
    let calls = c.as_slice-calls.result.now in
    let p = c.index_mut.result.now in
    let posted = post t programs c.args.actor c.args.note c.args.queue c.args.count c.requires.numbers.0 c.requires.numbers.1 e told in
    let owing = owes t programs c.args.actor c.args.note c.args.queue c.args.count c.requires.numbers.0 c.requires.numbers.1 e told in
    let has_one = has t programs c.args.actor c.args.note c.args.queue c.args.count c.requires.numbers.0 c.requires.numbers.1 e told in
    let same = are_read programs t.postings.items thread calls c.index-programs-thread.result p has_one c.requires.told.threads c.as_slice-calls.ensures c.index-programs-thread.is c.index_mut.ensures.value in
    let items = c.in_ok-items.ensures.0 in
    let takes = c.in_ok-items.ensures.1 in
    let front = items_posted calls p.behind c.post.new.self.behind items posted.items c.args.queue e.entry.what posted.what_is takes owing.dues (stands_here programs t.postings.items thread calls p same owing.dues owing.may_owe) owing.answers in
    let all : c.from_vec.result ≡ posted.items = c.from_vec.ensures ∙ (c.in_ok-items.ensures.2 ∙ (ap (λ n. take n items) posted.count_is ∙ front)) in
    record {
      what_is = ap (Post c.args.queue) all ∙ sym posted.what_is;
      same_state = refl;
      moves = moves_here programs t.postings.items thread calls p same c.post.new.self e.entry (by_thread t programs c.args.actor c.args.note c.args.queue c.args.count c.requires.numbers.0 c.requires.numbers.1 e told) (omega (arith, has_one.inside, c.requires.told.threads))
          (behind_posted calls p.behind c.post.new.self.behind items posted.items c.args.queue e.entry.what posted.what_is takes);
    }
