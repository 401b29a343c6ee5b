-- What an entry says whose note has these numbers.
use Rattle.std.proofs.Common.{◌≡◌, ℕ, ◌≤◌, inl, inr, List, length, refl, sym, ap, ◌∙◌, arith, Option, Some, None}
use Rattle.std.proofs.lemmas.Option.{none-some}
use Rattle.bus_core.specs.declared.turn.Note.{Note}
use Rattle.verbs_types.specs.declared.completion.Completion.{Completion}
use Rattle.verbs_types.specs.declared.completion.Queue.{Queue}
use Rattle.verbs_types.specs.declared.entry.What.{What}
use Rattle.verbs_types.specs.declared.entry.What.TheVariants.{Post, PostFull, Poll, Retire, Ack, Fetch, Publish}
use Rattle.verbs_types.specs.declared.request.Item.{Item}
use Rattle.verbs_rules.specs.State.{Verbs}
use Rattle.verbs_rules.specs.Step.{MayStep}
use Rattle.verbs_laws.proofs.Failing.{IsHost, passed}
use Rattle.verbs_laws.proofs.Facts.{MayPost, MayPost_by_step, MayPostFull, MayPostFull_by_step, MayPoll, MayPoll_by_step, MayPublish, MayPublish_by_step}
use Rattle.actor_map.specs.declared.note.EntryNumbers.{EntryNumbers}
use Rattle.actor_map.specs.declared.note.EntryNumbers.TheVariants as numbers
use Rattle.actor_map.specs.Notes.{Serves, note_of}
use Rattle.actor_map.specs.Numbers.{note_or_none, numbers_in, numbers_of}
use Rattle.actor_map.proofs.Numbers.{told_back}

-- an entry of a thread, or of the one that opens and closes the adapter, has an actor above 0
pub host_above : (actor : ℕ) → IsHost actor → 1 ≤ actor
host_above actor (inl h) = h.0
host_above actor (inr h) = omega (arith, h)

read_back : (told : Option EntryNumbers) → numbers_in (note_or_none told) ≡ told
read_back None = told_back.none
read_back (Some n) = told_back.numbers n

-- the note of an entry has its numbers
pub numbers_told : (note : Note) (what : What) (seen : ℕ) → note ≡ note_of what seen → numbers_in note ≡ numbers_of what seen
numbers_told note what seen is = ap numbers_in is ∙ read_back (numbers_of what seen)

module _ (v : Verbs) (actor : ℕ) where
  abbrev May : What → Type 0
  May what = MayStep v (record { actor = actor; what = what })

  pub record IsPost (queue : Queue) (count : ℕ) (what : What) : Type 0 where
    pub items : List Item
    pub what_is : what ≡ Post queue items
    pub count_is : count ≡ length items
    pub may : MayPost v actor queue items

  pub post_by_numbers : (what : What) (seen : ℕ) (queue : Queue) (count tail : ℕ) → numbers_of what seen ≡ Some (numbers.Post queue count tail) → May what → IsPost queue count what
  post_by_numbers (Post q items) seen queue count tail is may =
      let same : q ≡ queue = cc in
      record { items = items; what_is = ap (λ (q : Queue). Post q items) same; count_is = cc; may = coe 0 1 (i. MayPost v actor (same i) items) (MayPost_by_step v actor q items may) }
  post_by_numbers what seen queue count tail is may = absurd cc

  pub record IsFull (queue : Queue) (pending head tail : ℕ) (what : What) : Type 0 where
    pub what_is : what ≡ PostFull queue pending head tail
    pub may : MayPostFull v actor queue pending head tail

  -- the tail that was seen is that of the state
  pub full_by_numbers : (what : What) (seen : ℕ) (queue : Queue) (pending head tail : ℕ) → numbers_of what seen ≡ Some (numbers.PostFull queue pending head tail) → May what → Serves v what seen → IsFull queue pending head tail what
  full_by_numbers (PostFull q p h t) seen queue pending head tail is may serves =
      let full = MayPostFull_by_step v actor q p h t may in
      let at_queue : q ≡ queue = cc in
      let at_pending : p ≡ pending = cc in
      let at_head : h ≡ head = cc in
      let seen_is : seen ≡ tail = cc in
      let at_tail : t ≡ tail = full.retired ∙ (sym serves ∙ seen_is) in
      record {
        what_is = λ i. PostFull (at_queue i) (at_pending i) (at_head i) (at_tail i);
        may = coe 0 1 (i. MayPostFull v actor (at_queue i) (at_pending i) (at_head i) (at_tail i)) full;
      }
  full_by_numbers what seen queue pending head tail is may serves = absurd cc

  pub record IsPoll (cq most taken : ℕ) (what : What) : Type 0 where
    pub completions : List Completion
    pub what_is : what ≡ Poll cq most completions
    pub taken_are : taken ≡ length completions
    pub may : MayPoll v actor cq most completions

  pub poll_by_numbers : (what : What) (seen : ℕ) (cq most taken shown : ℕ) → numbers_of what seen ≡ Some (numbers.Poll cq most taken shown) → May what → IsPoll cq most taken what
  poll_by_numbers (Poll c m completions) seen cq most taken shown is may =
      let at_queue : c ≡ cq = cc in
      let at_most : m ≡ most = cc in
      record {
        completions = completions;
        what_is = λ i. Poll (at_queue i) (at_most i) completions;
        taken_are = cc;
        may = coe 0 1 (i. MayPoll v actor (at_queue i) (at_most i) completions) (MayPoll_by_step v actor c m completions may);
      }
  poll_by_numbers what seen cq most taken shown is may = absurd cc

  pub record IsPublish (cq : ℕ) (what : What) : Type 0 where
    pub completion : Completion
    pub what_is : what ≡ Publish cq completion
    pub may : MayPublish v actor cq completion

  pub publish_by_numbers : (what : What) (seen : ℕ) (cq acked : ℕ) → numbers_of what seen ≡ Some (numbers.Publish cq acked) → May what → IsPublish cq what
  publish_by_numbers (Publish c completion) seen cq acked is may =
      let at_queue : c ≡ cq = cc in
      record {
        completion = completion;
        what_is = ap (λ (n : ℕ). Publish n completion) at_queue;
        may = coe 0 1 (i. MayPublish v actor (at_queue i) completion) (MayPublish_by_step v actor c completion may);
      }
  publish_by_numbers what seen cq acked is may = absurd cc

  -- an entry without numbers is not built, and has no living objects
  pub none_by_numbers : (what : What) (seen : ℕ) → numbers_of what seen ≡ None → May what → ⊥
  none_by_numbers (Post q items) seen is may = absurd cc
  none_by_numbers (PostFull q p h t) seen is may = absurd cc
  none_by_numbers (Poll c m completions) seen is may = absurd cc
  none_by_numbers (Retire q count) seen is may = absurd cc
  none_by_numbers (Ack c index) seen is may = absurd cc
  none_by_numbers (Fetch q number) seen is may = absurd cc
  none_by_numbers (Publish c completion) seen is may = absurd cc
  none_by_numbers what seen is may = none-some _ (sym (passed _ _ _ may).1)
