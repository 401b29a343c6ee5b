-- What an operation leaves of what was posted, and what is to be shown of it.
use Rattle.std.proofs.Common.{◌≡◌, ℕ, ◌+◌, ◌≤◌, inl, inr, refl, sym, subst, arith, Bool, true, false, cond, List, [], Option, Some, None}
use Rattle.std.specs.Prelude.{slice_index}
use Rattle.std.proofs.lemmas.Bool.{cases_Bool}
use Rattle.bus_core.specs.declared.operation.BusEntry.{BusEntry}
use Rattle.bus_core.specs.declared.turn.Step.{Step}
use Rattle.bus_core.specs.Operation.{loaded, stored}
use Rattle.counted_ring.specs.declared.place.WqPlace.{WqPlace}
use Rattle.counted_ring.specs.declared.poster.Posted.{Posted}
use Rattle.counted_ring.specs.Place.{is_send, span, most}
use Rattle.counted_ring.specs.Queue.{WqEvent, Wrote, Full}
use Rattle.counted_ring.specs.Poster.{Poster, Stage, Ready, Storing, Naming, Counting, Ringing, at_stage, at_tail, has_room, posted_one, after_post_at, post_says_at}
use Rattle.counted_ring.specs.PosterView.{PosterView, Posting, MayBring, after_bring, brought}
use Rattle.counted_ring.specs.Rung.{Rung, rung_of, rung_after}
use Rattle.provider_post.specs.declared.call.Call.{Call}
use Rattle.provider_post.specs.Call.{mark_at, told_of, told_at, call_after, is_last, left_after}
use Rattle.provider_post.specs.Side.{IsAtRest}
use Rattle.provider_post.specs.Queued.{WritesTask}
use Rattle.provider_post.specs.Inside.{RungFits, IsAtCall, IsAtWork}

-- what an operation of a post leaves of count, index and first word, by what it says
pub record Grows (place : WqPlace) (p p' : Poster) (words : List ℕ) : Type 0 where
  pub count : p'.count ≡ p.count + 1
  pub index : p'.index ≡ p.index + span place (slice_index words 0)
  pub stage : p'.stage ≡ Ready

abbrev pub Stays : Poster → Poster → Type 0
Stays p p' = rung_of p' ≡ rung_of p

abbrev pub Moves : WqPlace → Poster → Poster → Option WqEvent → Type 0
Moves place p p' None = Stays p p'
Moves place p p' (Some (Wrote words id)) = Grows place p p' words
Moves place p p' (Some (Full head tail)) = p' ≡ at_stage (at_tail p tail) Ready
Moves place p p' (Some _) = Unit {0}

asked : (place : WqPlace) (p : Poster) (e : BusEntry) (room : Bool) → Moves place p (at_stage (at_tail p (loaded e)) (cond room (Storing []) Ready)) (cond room None (Some (Full p.count (loaded e))))
asked place p e true = refl
asked place p e false = refl

grows : (place : WqPlace) (p : Poster) (words : List ℕ) → Grows place p (posted_one place p words) words
grows place p words = record { count = refl; index = refl; stage = refl }

named : (place : WqPlace) (p : Poster) (words : List ℕ) (id : ℕ) (send : Bool) → Moves place p (cond send (at_stage p (Counting words id)) (posted_one place p words)) (cond send None (Some (Wrote words id)))
named place p words id true = refl
named place p words id false = grows place p words

pub moves : (place : WqPlace) (p : Poster) (stage : Stage) (e : BusEntry) → Moves place p (after_post_at place p stage e) (post_says_at place p stage e)
moves place p Ready e = asked place p e (has_room place p e)
moves place p (Storing words) e = refl
moves place p (Naming words) e = named place p words (stored e) (is_send place)
moves place p (Counting words id) e = grows place p words
moves place p Ringing e = refl

-- what was rung is as it was, and so is what was posted
pub rung_stays : (c : Call) (side side' rung rung' : Rung) → side' ≡ side → rung' ≡ rung → RungFits c side rung → RungFits c side' rung'
rung_stays c side side' rung rung' stays same h = coe 1 0 (i. RungFits c (stays i) (same i)) h

pub most_few : (place : WqPlace) → most place ≤ 4
most_few place = elim (cases_Bool (is_send place)) [ inl send ↦ rw send (omega arith) | inr receive ↦ rw receive (omega arith) ]

-- the call goes on, unless it was its last operation
pub goes_on : (p : PosterView) (register : Bool) (c n : Call) → is_last register c n ≡ false → IsAtCall p n → IsAtWork p (left_after register c n)
goes_on p register c n more at_call = rw more at_call

pub ends_call : (p : PosterView) (register : Bool) (c n : Call) → is_last register c n ≡ true → IsAtRest p → IsAtWork p (left_after register c n)
ends_call p register c n last at_rest = rw last at_rest

pub at_rest : (p : PosterView) (call : Option Call) → IsAtWork p call → call ≡ None → IsAtRest p
at_rest p None work none = work
at_rest p (Some c) work none = absurd cc

-- what the operation is, where the call's items are written or not
pub record Made (p p' : PosterView) (c : Call) (e : BusEntry) (answer : Step (Unit {0}) Posted) (written : Bool) : Type 0 where
  pub may : MayBring p.place p.side (mark_at written) e
  pub side : p'.side ≡ after_bring p.place p.side (mark_at written) e
  pub told_is : told_at written c.recorded answer ≡ told_of (brought p.place p.side (mark_at written) e)
  pub writes : WritesTask p.task (brought p.place p.side (mark_at written) e)
  pub rung : p'.rung ≡ rung_after (mark_at written) p.side p.rung
  pub work : IsAtWork p' (left_after (is_send p.place) c (call_after c (told_at written c.recorded answer)))
  pub task : (words : List ℕ) (id : ℕ) → p'.task ≡ Some (Posting words id) → p.task ≡ Some (Posting words id)
  pub index : (words : List ℕ) (id : ℕ) → p'.task ≡ Some (Posting words id) → p'.side.index ≡ p.side.index
  pub call : (words : List ℕ) (id : ℕ) → p'.task ≡ Some (Posting words id) → left_after (is_send p.place) c (call_after c (told_at written c.recorded answer)) ≡ Some c
