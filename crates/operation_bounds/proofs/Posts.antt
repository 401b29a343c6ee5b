-- The words of an entry that a post stores, and that each brings its call nearer to its end.
use Rattle.std.proofs.Common.{◌≡◌, ℕ, ◌-◌, ◌*◌, ◌^◌, ◌%◌, ◌<◌, ◌≤◌, ◌==◌, nat_le, refl, arith, Bool, true, false, if◌then◌else◌, List, [], ◌∷◌, ◌++◌, length, slice_index}
use Rattle.std.proofs.lemmas.Bool.{eqb-false, both_ways}
use Rattle.std.proofs.lemmas.List.{length-append}
use Rattle.std.proofs.Math.Nat.{mul-le-mul_left}
use Rattle.bus_core.specs.declared.operation.BusEntry.{BusEntry}
use Rattle.bus_core.specs.Operation.{stored}
use Rattle.counted_ring.specs.declared.place.WqPlace.{WqPlace}
use Rattle.counted_ring.specs.Place.{IsPlace, is_send, unit_blocks, all_words}
use Rattle.counted_ring.specs.Poster.{Poster, Stage, Ready, Storing, Naming, Counting, Ringing, MayPostAt, MayRingAt, after_post_at, after_ring_at, stage_with, has_room, at_stage, posted_one}
use Rattle.counted_ring.specs.PosterView.{MayBring, after_bring, is_ready, stage_turns}
use Rattle.provider_post.specs.declared.call.Call.{Call}
use Rattle.provider_post.specs.Call.{is_written, mark_at, mark_of}
use Rattle.provider_post.specs.Left.{post_left}
use Rattle.provider_post.specs.Rule.{PostRule, post_side_poster, post_side_call}
use Rattle.provider_post.proofs.Left.{IsPosting, Falls, Left, post_goes}

-- of an entry of which these words are stored some are left
abbrev pub IsBegun : WqPlace → List ℕ → Type 0
IsBegun place [] = Unit {0}
IsBegun place (w ∷ ws) = length (w ∷ ws) < all_words place (w ∷ ws)

abbrev pub IsStaged : WqPlace → Stage → Type 0
IsStaged place Ready = Unit {0}
IsStaged place (Storing words) = IsBegun place words
IsStaged place (Naming words) = Unit {0}
IsStaged place (Counting words id) = Unit {0}
IsStaged place Ringing = Unit {0}

few_blocks : (units : ℕ) → (1 ≤ unit_blocks units) × (unit_blocks units ≤ 4)
few_blocks units = by (nat_le units 4) (nat_le units 8) (nat_le units 12)
  where
    by : (a b c : Bool) → (1 ≤ (if a then 1 else if b then 2 else if c then 3 else 4)) × ((if a then 1 else if b then 2 else if c then 3 else 4) ≤ 4)
    by true b c = (omega arith, omega arith)
    by false true c = (omega arith, omega arith)
    by false false true = (omega arith, omega arith)
    by false false false = (omega arith, omega arith)

-- an entry has a word at least, and at most 32
words_few : (place : WqPlace) → IsPlace place → (words : List ℕ) → (1 ≤ all_words place words) × (all_words place words ≤ 32)
words_few place fine words = by (is_send place) fine.few_words
  where
    by : (b : Bool) → (if b then 4 else 1) * place.stride ≤ 32
        → (1 ≤ (if b then unit_blocks (slice_index words 0 % 2 ^ 6) else 1) * place.stride) × ((if b then unit_blocks (slice_index words 0 % 2 ^ 6) else 1) * place.stride ≤ 32)
    by true few =
        let k = few_blocks (slice_index words 0 % 2 ^ 6) in
        let low : place.stride * 1 ≤ place.stride * unit_blocks (slice_index words 0 % 2 ^ 6) = mul-le-mul_left place.stride k.0 in
        let high : place.stride * unit_blocks (slice_index words 0 % 2 ^ 6) ≤ place.stride * 4 = mul-le-mul_left place.stride k.1 in
        (omega (arith, fine.some_stride, low), omega (arith, few, high))
    by false few = (omega (arith, fine.some_stride), omega (arith, few))

begun_few : (place : WqPlace) → IsPlace place → (words : List ℕ) → IsBegun place words → length words < 32
begun_few place fine [] begun = omega arith
begun_few place fine (w ∷ ws) begun = let few = words_few place fine (w ∷ ws) in omega (arith, begun, few.1)

-- the stage after one word more
staged_by : (place : WqPlace) (w : ℕ) (ws : List ℕ) → length (w ∷ ws) ≤ all_words place (w ∷ ws) → IsStaged place (stage_with place (w ∷ ws))
staged_by place w ws few = by (length (w ∷ ws) == all_words place (w ∷ ws)) refl
  where
    by : (b : Bool) → (length (w ∷ ws) == all_words place (w ∷ ws)) ≡ b → IsStaged place (if b then Naming (w ∷ ws) else Storing (w ∷ ws))
    by true e = tt
    by false e = let more = eqb-false (length (w ∷ ws)) (all_words place (w ∷ ws)) e in omega (arith, few, more)

store_staged : (place : WqPlace) → IsPlace place → (words : List ℕ) (w : ℕ) → IsBegun place words → IsStaged place (stage_with place (words ++ w ∷ []))
store_staged place fine [] w begun = staged_by place w [] (let few = words_few place fine (w ∷ []) in omega (arith, few.0))
store_staged place fine (v ∷ vs) w begun = staged_by place v (vs ++ w ∷ []) (let long = length-append vs (w ∷ []) in omega (arith, begun, long))

store_falls : (place : WqPlace) → IsPlace place → (words : List ℕ) (w : ℕ) → IsBegun place words → stage_turns (stage_with place (words ++ w ∷ [])) < stage_turns (Storing words)
store_falls place fine words w begun = by (length (words ++ w ∷ []) == all_words place (words ++ w ∷ []))
  where
    by : (b : Bool) → stage_turns (if b then Naming (words ++ w ∷ []) else Storing (words ++ w ∷ [])) < 35 - length words
    by true = let few = begun_few place fine words begun in omega (arith, few)
    by false = let few = begun_few place fine words begun in let long = length-append words (w ∷ []) in omega (arith, few, long)

-- An operation of a post

module _ (place : WqPlace) (fine : IsPlace place) (p : Poster) (e : BusEntry) where
  -- what it leaves of an entry that is being written
  abbrev Follows : Stage → Stage → Type 0
  Follows stage next = IsStaged place next × Falls stage next

  over : (stage next : Stage) → is_ready next ≡ true → IsStaged place next → Follows stage next
  over stage next ready staged = (staged, λ unready. absurd (both_ways (is_ready next) unready ready))

  posts : (stage : Stage) → IsStaged place stage → MayPostAt place p stage e → Follows stage (after_post_at place p stage e).stage
  posts Ready staged may = by (has_room place p e)
    where
      by : (b : Bool) → Follows Ready (if b then Storing [] else Ready)
      by true = (tt, λ unready. omega arith)
      by false = over Ready Ready refl tt
  posts (Storing words) staged may = (store_staged place fine words (stored e) staged, λ unready. store_falls place fine words (stored e) staged)
  posts (Naming words) staged may = by (is_send place)
    where
      by : (b : Bool) → Follows (Naming words) (if b then at_stage p (Counting words (stored e)) else posted_one place p words).stage
      by true = (tt, λ unready. omega arith)
      by false = over (Naming words) Ready refl tt
  posts (Counting words id) staged may = over (Counting words id) Ready refl tt
  posts Ringing staged may = absurd may

  rings : (stage : Stage) → MayRingAt place p stage e → Follows stage (after_ring_at place p stage).stage
  rings Ready may = by (is_send place)
    where
      by : (b : Bool) → Follows Ready (if b then Ringing else Ready)
      by true = (tt, λ unready. omega arith)
      by false = over Ready Ready refl tt
  rings (Storing words) may = absurd may
  rings (Naming words) may = absurd may
  rings (Counting words id) may = absurd may
  rings Ringing may = over Ringing Ready refl tt

  follows : (written : Bool) → IsStaged place p.stage → MayBring place p (mark_at written) e → Follows p.stage (after_bring place p (mark_at written) e).stage
  follows true staged may = rings p.stage may
  follows false staged may = posts p.stage staged may

-- each operation of a call keeps this, and brings the call nearer to its end
pub staged_goes : (place : WqPlace) → IsPlace place → (items : ℕ) (p : Poster) (c : Call) (e : BusEntry) → IsPosting items c → IsStaged place p.stage → MayBring place p (mark_of c) e
    → IsStaged place (post_side_poster place (record { poster = p; call = c }) e).stage × Left items (post_left p.stage c) (post_side_poster place (record { poster = p; call = c }) e).stage (post_side_call place (record { poster = p; call = c }) e)
staged_goes place fine items p c e h staged may =
    let next = follows place fine p e (is_written c) staged may in
    (next.0, post_goes place items p c e h next.1 may)
