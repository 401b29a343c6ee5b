-- Each operation of a call to post brings it nearer to its end.
use Rattle.std.proofs.Common.{◌≡◌, ℕ, ◌+◌, ◌-◌, ◌*◌, ◌<◌, ◌≤◌, ◌==◌, ◌||◌, ◌&&◌, not, refl, sym, ap, ◌∙◌, arith, Bool, true, false, if◌then◌else◌, List, [], ◌∷◌, ◌++◌, length, Option, None, Some, is_some}
use Rattle.std.proofs.lemmas.Bool.{eqb-false, false≢true, both_ways, or_parts, or_right}
use Rattle.bus_core.specs.declared.operation.BusEntry.{BusEntry}
use Rattle.bus_core.specs.declared.turn.Step.{Step}
use Rattle.bus_core.specs.declared.turn.Step.TheVariants.{More, Gave, Done}
use Rattle.bus_core.specs.Operation.{loaded, stored}
use Rattle.counted_ring.specs.declared.place.WqPlace.{WqPlace}
use Rattle.counted_ring.specs.Place.{is_send, all_words}
use Rattle.counted_ring.specs.Poster.{Poster, Stage, Ready, Storing, Naming, Counting, Ringing, MayPostAt, MayRingAt, after_post_at, after_ring_at, post_says_at, ring_says_at, stage_with, has_room, at_stage, posted_one}
use Rattle.counted_ring.specs.declared.poster.Posted.{Posted}
use Rattle.counted_ring.specs.PosterView.{PosterTask, MayBring, after_bring, brought, is_done, is_ready, stage_turns, turns_left}
use Rattle.counted_ring.specs.Queue.{WqEvent, Wrote, Full, Rang}
use Rattle.counted_ring.specs.Turn.{task_after}
use Rattle.provider_post.specs.declared.call.Call.{Call}
use Rattle.provider_post.specs.Call.{is_written, is_last, left_after, call_after, told_of, mark_at, mark_of}
use Rattle.provider_post.specs.Left.{ring_left, left_by, left_of, post_left}
use Rattle.provider_post.specs.Rule.{PostRule, post_side_poster, post_side_call}
use Rattle.provider_post.proofs.Calls.{one_left}

-- a call of so many items
pub record IsPosting (items : ℕ) (c : Call) : Type 0 where
  pub count : c.count ≡ items
  pub some : c.accepted ≤ c.count

-- the stage of an item that goes on takes less with each operation
abbrev pub Falls : Stage → Stage → Type 0
Falls stage next = is_ready next ≡ false → stage_turns next < stage_turns stage

-- so it is at a poster's turn
pub turn_falls : (stage next : Stage) (task : Option PosterTask) (answer : Step (Unit {0}) Posted) → is_done answer ≡ is_ready next → turns_left (task_after task answer) next < turns_left task stage → Falls stage next
turn_falls stage next None More done fewer unready = absurd (omega (arith, fewer))
turn_falls stage next (Some task) More done fewer unready = fewer
turn_falls stage next None (Gave part) done fewer unready = absurd (omega (arith, fewer))
turn_falls stage next (Some task) (Gave part) done fewer unready = fewer
turn_falls stage next task (Done given) done fewer unready = absurd (both_ways (is_ready next) unready (sym done))

ring_few : (recorded : Bool) (stage : Stage) → (1 ≤ ring_left recorded stage) × (ring_left recorded stage ≤ 3)
ring_few true stage = (omega arith, omega arith)
ring_few false Ready = (omega arith, omega arith)
ring_few false (Storing words) = (omega arith, omega arith)
ring_few false (Naming words) = (omega arith, omega arith)
ring_few false (Counting words id) = (omega arith, omega arith)
ring_few false Ringing = (omega arith, omega arith)

ready_few : (recorded : Bool) → ring_left recorded Ready ≤ 2
ready_few true = omega arith
ready_few false = omega arith

turns_few : (stage : Stage) → stage_turns stage ≤ 36
turns_few Ready = omega arith
turns_few (Storing words) = omega arith
turns_few (Naming words) = omega arith
turns_few (Counting words id) = omega arith
turns_few Ringing = omega arith

-- a call that is not over has an operation to make, and at most 36 an item and 38
pub post_few : (items : ℕ) (stage : Stage) (c : Call) → IsPosting items c → (0 < post_left stage c) × (post_left stage c ≤ 36 * items + 38)
post_few items stage c h = by (is_written c)
  where
    by : (b : Bool) → (0 < left_by b c.recorded stage (c.count - c.accepted)) × (left_by b c.recorded stage (c.count - c.accepted) ≤ 36 * items + 38)
    by true = let few = ring_few c.recorded stage in (omega (arith, few.0), omega (arith, few.1))
    by false = let few = turns_few stage in (omega arith, omega (arith, few, h.count))

-- the call after an operation that says this
abbrev with_event : Call → Option WqEvent → Call
with_event c event = call_after c (told_of event)

-- what is left after an operation: none of the call, or less
abbrev pub Left : ℕ → ℕ → Stage → Option Call → Type 0
Left items before stage None = Unit {0}
Left items before stage (Some c) = IsPosting items c × (post_left stage c < before)

unless_last : (items before : ℕ) (stage : Stage) (send : Bool) (c next : Call) → (is_last send c next ≡ false → IsPosting items next × (post_left stage next < before)) → Left items before stage (left_after send c next)
unless_last items before stage send c next f = by (is_last send c next) refl
  where
    by : (b : Bool) → is_last send c next ≡ b → Left items before stage (if b then None else Some next)
    by true e = tt
    by false e = f e

-- an operation after the record is the last one
not_recorded : (send : Bool) (c next : Call) → is_last send c next ≡ false → c.recorded ≡ false
not_recorded send c next goes = by c.recorded goes
  where
    by : (b : Bool) → (b || (next.recorded && not send) || (is_some next.refused && (next.accepted == 0))) ≡ false → b ≡ false
    by true e = absurd (false≢true (sym e))
    by false e = refl

module _ (place : WqPlace) (items : ℕ) (p : Poster) (c : Call) (e : BusEntry) (h : IsPosting items c) where
  -- what an operation leaves
  abbrev Goes : ℕ → Stage → Option WqEvent → Type 0
  Goes before stage event = Left items before stage (left_after (is_send place) c (with_event c event))

  -- Items are written

  module _ (more : is_written c ≡ false) where
    left_is : (stage : Stage) → post_left stage c ≡ stage_turns stage + 36 * (c.count - c.accepted - 1) + 2
    left_is stage = ap (λ b. left_by b c.recorded stage (c.count - c.accepted)) more

    some_left : c.accepted < c.count
    some_left = one_left c more h.some

    silent : (stage next : Stage) → stage_turns next < stage_turns stage → Goes (post_left stage c) next None
    silent stage next falls = unless_last items (post_left stage c) next (is_send place) c c (λ goes. (h, let now = left_is stage in let then_left = left_is next in omega (arith, now, then_left, falls)))

    wrote_falls : (stage : Stage) (words : List ℕ) (id : ℕ) → 1 ≤ stage_turns stage → post_left Ready (with_event c (Some (Wrote words id))) < post_left stage c
    wrote_falls stage words id some = by (is_written (with_event c (Some (Wrote words id)))) refl
      where
        by : (b : Bool) → is_written (with_event c (Some (Wrote words id))) ≡ b → left_by b c.recorded Ready (c.count - (c.accepted + 1)) < post_left stage c
        by true e = let few = ready_few c.recorded in let now = left_is stage in omega (arith, few, now, some)
        by false e =
            let parts = or_parts (c.accepted + 1 == c.count) (is_some c.refused) e in
            let differ = eqb-false (c.accepted + 1) c.count parts.0 in
            let now = left_is stage in omega (arith, now, some, differ, some_left)

    wrote : (stage : Stage) (words : List ℕ) (id : ℕ) → 1 ≤ stage_turns stage → Goes (post_left stage c) Ready (Some (Wrote words id))
    wrote stage words id some =
        unless_last items (post_left stage c) Ready (is_send place) c (with_event c (Some (Wrote words id))) (λ goes. (record { count = h.count; some = omega (arith, some_left) }, wrote_falls stage words id some))

    full : (head tail : ℕ) → Goes (post_left Ready c) Ready (Some (Full head tail))
    full head tail = unless_last items (post_left Ready c) Ready (is_send place) c (with_event c (Some (Full head tail))) (λ goes. (record { count = h.count; some = h.some }, falls))
      where
        falls : post_left Ready (with_event c (Some (Full head tail))) < post_left Ready c
        falls =
            let then_left : post_left Ready (with_event c (Some (Full head tail))) ≡ ring_left c.recorded Ready = ap (λ b. left_by b c.recorded Ready (c.count - c.accepted)) (or_right (c.accepted == c.count) true refl) in
            let few = ready_few c.recorded in let now = left_is Ready in omega (arith, then_left, few, now)

    posts : (stage : Stage) → Falls stage (after_post_at place p stage e).stage → MayPostAt place p stage e → Goes (post_left stage c) (after_post_at place p stage e).stage (post_says_at place p stage e)
    posts Ready falls may = by (has_room place p e)
      where
        by : (b : Bool) → Goes (post_left Ready c) (if b then Storing [] else Ready) (if b then None else Some (Full p.count (loaded e)))
        by true = silent Ready (Storing []) (omega arith)
        by false = full p.count (loaded e)
    posts (Storing words) falls may = silent (Storing words) (stage_with place (words ++ stored e ∷ [])) (falls (unready (length (words ++ stored e ∷ []) == all_words place (words ++ stored e ∷ []))))
      where
        unready : (b : Bool) → is_ready (if b then Naming (words ++ stored e ∷ []) else Storing (words ++ stored e ∷ [])) ≡ false
        unready true = refl
        unready false = refl
    posts (Naming words) falls may = by (is_send place)
      where
        by : (b : Bool) → Goes (post_left (Naming words) c) (if b then at_stage p (Counting words (stored e)) else posted_one place p words).stage (if b then None else Some (Wrote words (stored e)))
        by true = silent (Naming words) (Counting words (stored e)) (omega arith)
        by false = wrote (Naming words) words (stored e) (omega arith)
    posts (Counting words id) falls may = wrote (Counting words id) words id (omega arith)
    posts Ringing falls may = absurd may

  -- All is written

  module _ (all : is_written c ≡ true) where
    ring_is : (stage : Stage) → post_left stage c ≡ ring_left c.recorded stage
    ring_is stage = ap (λ b. left_by b c.recorded stage (c.count - c.accepted)) all

    rings : (stage : Stage) → MayRingAt place p stage e → Goes (post_left stage c) (after_ring_at place p stage).stage (ring_says_at stage)
    rings Ready may = unless_last items (post_left Ready c) (if is_send place then Ringing else Ready) (is_send place) c (with_event c (Some Rang)) (λ goes. (record { count = h.count; some = h.some }, falls goes))
      where
        falls : is_last (is_send place) c (with_event c (Some Rang)) ≡ false → post_left (if is_send place then Ringing else Ready) (with_event c (Some Rang)) < post_left Ready c
        falls goes =
            let then_left : post_left (if is_send place then Ringing else Ready) (with_event c (Some Rang)) ≡ 1 = ap (λ b. left_by b true (if is_send place then Ringing else Ready) (c.count - c.accepted)) all in
            let waits = not_recorded (is_send place) c (with_event c (Some Rang)) goes in
            let now : post_left Ready c ≡ 2 = ring_is Ready ∙ ap (λ b. ring_left b Ready) waits in
            omega (arith, then_left, now)
    rings (Storing words) may = absurd may
    rings (Naming words) may = absurd may
    rings (Counting words id) may = absurd may
    rings Ringing may = unless_last items (post_left Ringing c) Ready (is_send place) c c (λ goes. (h, falls goes))
      where
        falls : is_last (is_send place) c c ≡ false → post_left Ready c < post_left Ringing c
        falls goes =
            let waits = not_recorded (is_send place) c c goes in
            let then_left : post_left Ready c ≡ 2 = ring_is Ready ∙ ap (λ b. ring_left b Ready) waits in
            let now : post_left Ringing c ≡ 3 = ring_is Ringing ∙ ap (λ b. ring_left b Ringing) waits in
            omega (arith, then_left, now)

  abbrev rule : PostRule
  rule = record { poster = p; call = c }

  -- each operation of a call brings it nearer to its end
  pub post_goes : Falls p.stage (post_side_poster place rule e).stage → MayBring place p (mark_of c) e → Left items (post_left p.stage c) (post_side_poster place rule e).stage (post_side_call place rule e)
  post_goes falls may = by (is_written c) refl falls may
    where
      by : (b : Bool) → is_written c ≡ b → Falls p.stage (after_bring place p (mark_at b) e).stage → MayBring place p (mark_at b) e → Goes (post_left p.stage c) (after_bring place p (mark_at b) e).stage (brought place p (mark_at b) e)
      by true e' falls' may' = rings e' p.stage may'
      by false e' falls' may' = posts e' p.stage falls' may'

-- what is left is less, and nothing where the call is over
pub fewer : (items : ℕ) (stage next : Stage) (c : Call) (o : Option Call) → IsPosting items c → Left items (post_left stage c) next o → left_of next o < post_left stage c
fewer items stage next c None h left = let some = post_few items stage c h in some.0
fewer items stage next c (Some n) h left = left.1
