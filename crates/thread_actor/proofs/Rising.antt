-- Counts and indices rise by no more than 64 in a turn.
use Rattle.std.proofs.Common.{◌≡◌, ◌≢◌, ◌⊎◌, inl, inr, ℕ, zero, suc, ◌+◌, ◌≤◌, ◌<◌, ◌%◌, ◌^◌, ◌==◌, ◌∷◌, ◌++◌, nat_le, arith, refl, sym, ap, ◌∙◌, subst, true, false, Bool, if◌then◌else◌, List, [], length, slice_index, Option, None, Some}
use Rattle.std.proofs.lemmas.Bool.{cases_Bool}
use Rattle.bus_core.specs.declared.operation.BusEntry.{BusEntry}
use Rattle.bus_core.specs.Operation.{loaded, stored}
use Rattle.owner_ring.specs.Consumer.{Consumer, Waiting, Reading, next_index, after_consume}
use Rattle.owner_ring.specs.Place.{is_owned}
use Rattle.owner_ring.specs.declared.place.RingPlace.{RingPlace}
use Rattle.owner_ring.specs.Mark as ring
use Rattle.cq_pair.specs.declared.place.CqPlace.{CqPlace}
use Rattle.cq_pair.specs.Host.{MayPoll, after_poll}
use Rattle.cq_pair.specs.Mark.{QueueMark, Publish, Lose, Look, Read, Take, Acknowledge, Foreign}
use Rattle.cq_pair.specs.Place.{ring_of}
use Rattle.counted_ring.specs.declared.place.WqPlace.{WqPlace}
use Rattle.counted_ring.specs.Mark as counted
use Rattle.counted_ring.specs.Mark.{WqMark}
use Rattle.counted_ring.specs.Place.{is_send, span, unit_blocks, all_words}
use Rattle.counted_ring.specs.Poster.{Poster, Stage, Ready, Storing, Naming, Counting, Ringing, at_stage, has_room, posted_one, stage_with, after_post_at, after_ring_at}
use Rattle.counted_ring.specs.PosterView.{after_bring}
use Rattle.thread_actor.specs.Small.{IsPosterBelow, IsHostBelow}

few_units : (units : ℕ) → unit_blocks units ≤ 4
few_units units = elim (cases_Bool (nat_le units 4)) [
  | inl low ↦ rw low (omega arith)
  | inr high ↦ rw high (elim (cases_Bool (nat_le units 8)) [
    | inl low ↦ rw low (omega arith)
    | inr more ↦ rw more (elim (cases_Bool (nat_le units 12)) [ inl low ↦ rw low (omega arith) | inr most ↦ rw most (omega arith) ])
  ])
]

few_blocks : (place : WqPlace) (first : ℕ) → span place first ≤ 4
few_blocks place first = elim (cases_Bool (is_send place)) [
  | inl send ↦ rw send (few_units (first % 2 ^ 6))
  | inr receive ↦ rw receive (omega arith)
]

-- a poster at another stage
staged : (most : ℕ) (p : Poster) (stage : Stage) → IsPosterBelow most p → IsPosterBelow (most + 64) (at_stage p stage)
staged most p stage below = record { count = omega (arith, below.count); index = omega (arith, below.index) }

one_more : (most : ℕ) (place : WqPlace) (p : Poster) (words : List ℕ) → IsPosterBelow most p → IsPosterBelow (most + 64) (posted_one place p words)
one_more most place p words below = let few = few_blocks place (slice_index words 0) in record { count = omega (arith, below.count); index = omega (arith, below.index, few) }

pub weaken_poster : (most : ℕ) (p : Poster) → IsPosterBelow most p → IsPosterBelow (most + 64) p
weaken_poster most p below = record { count = omega (arith, below.count); index = omega (arith, below.index) }

named : (most : ℕ) (place : WqPlace) (p : Poster) (words : List ℕ) (e : BusEntry) → IsPosterBelow most p → IsPosterBelow (most + 64) (after_post_at place p (Naming words) e)
named most place p words e below = at_kind (is_send place) where
  at_kind : (b : Bool) → IsPosterBelow (most + 64) (if b then at_stage p (Counting words (stored e)) else posted_one place p words)
  at_kind true = staged most p (Counting words (stored e)) below
  at_kind false = one_more most place p words below

posts_at : (most : ℕ) (place : WqPlace) (p : Poster) (stage : Stage) (e : BusEntry) → IsPosterBelow most p → IsPosterBelow (most + 64) (after_post_at place p stage e)
posts_at most place p Ready e below = record { count = omega (arith, below.count); index = omega (arith, below.index) }
posts_at most place p (Storing words) e below = staged most p (stage_with place (words ++ stored e ∷ [])) below
posts_at most place p (Naming words) e below = named most place p words e below
posts_at most place p (Counting words id) e below = one_more most place p words below
posts_at most place p Ringing e below = weaken_poster most p below

rings_at : (most : ℕ) (place : WqPlace) (p : Poster) (stage : Stage) → IsPosterBelow most p → IsPosterBelow (most + 64) (after_ring_at place p stage)
rings_at most place p Ready below = staged most p (if is_send place then Ringing else Ready) below
rings_at most place p (Storing words) below = weaken_poster most p below
rings_at most place p (Naming words) below = weaken_poster most p below
rings_at most place p (Counting words id) below = weaken_poster most p below
rings_at most place p Ringing below = staged most p Ready below

pub brings : (most : ℕ) (place : WqPlace) (p : Poster) (mark : WqMark) (e : BusEntry) → IsPosterBelow most p → IsPosterBelow (most + 64) (after_bring place p mark e)
brings most place p counted.Post e below = posts_at most place p p.stage e below
brings most place p counted.Ring e below = rings_at most place p p.stage below
brings most place p (counted.Lookup counter from) e below = weaken_poster most p below
brings most place p counted.Count e below = weaken_poster most p below
brings most place p (counted.Retire end) e below = weaken_poster most p below
brings most place p counted.Look e below = weaken_poster most p below
brings most place p (counted.Record passes) e below = weaken_poster most p below
brings most place p counted.Read e below = weaken_poster most p below
brings most place p counted.Foreign e below = weaken_poster most p below

pub weaken_host : (most : ℕ) (c : Consumer) → IsHostBelow most c → IsHostBelow (most + 64) c
weaken_host most (Waiting acked next) below = omega (arith, below)
weaken_host most (Reading acked next index last words) below = (omega (arith, below.0), omega (arith, below.1))

pub next_below : (most : ℕ) (c : Consumer) → IsHostBelow most c → next_index c < most
next_below most (Waiting acked next) below = below
next_below most (Reading acked next index last words) below = below.0

looks : (most : ℕ) (place : RingPlace) (c : Consumer) (index : ℕ) (e : BusEntry) → index ≤ next_index c → IsHostBelow most c → IsHostBelow (most + 64) (after_consume place c (ring.Look index) e)
looks most place c index e low below = let next = next_below most c below in elim (cases_Bool (is_owned place index (loaded e))) [
  | inl owned ↦ rw owned (omega (arith, next), omega (arith, next, low))
  | inr other ↦ rw other (omega (arith, next))
]

reads : (most : ℕ) (place : RingPlace) (c : Consumer) (e : BusEntry) → IsHostBelow most c → IsHostBelow (most + 64) (after_consume place c ring.Read e)
reads most place (Waiting acked next) e below = omega (arith, below)
reads most place (Reading acked next index last words) e below = elim (cases_Bool (length words == 6)) [
  | inl whole ↦ rw whole (omega (arith, below.1))
  | inr part ↦ rw part (omega (arith, below.0), omega (arith, below.1))
]

pub polls_below : (most : ℕ) (place : CqPlace) (c : Consumer) (mark : QueueMark) (e : BusEntry) → MayPoll place c mark e → IsHostBelow most c → IsHostBelow (most + 64) (after_poll place c mark e)
polls_below most place c (Publish completion) e may below = weaken_host most c below
polls_below most place c Lose e may below = weaken_host most c below
polls_below most place c (Look index) e may below = looks most (ring_of place) c index e may.ring.reachable.next below
polls_below most place c Read e may below = reads most (ring_of place) c e below
polls_below most place c (Take completion) e may below = reads most (ring_of place) c e below
polls_below most place c (Acknowledge index) e may below = let next = next_below most c below in omega (arith, next)
polls_below most place c Foreign e may below = weaken_host most c below
