-- What a turn of a side is to the call's rule.
use Rattle.std.proofs.Common.{◌≡◌, ℕ, zero, suc, [], ◌∷◌, map, ◌+◌, ◌≤◌, arith, subst, cond, refl, sym, ap, ◌∙◌, Bool, true, false, Option, Some, None}
use Rattle.std.specs.Prelude.{List, length, slice_get, slice_index, option_map}
use Rattle.bus_core.specs.declared.operation.BusEntry.{BusEntry}
use Rattle.bus_core.specs.declared.turn.Step.{Step}
use Rattle.bus_core.specs.declared.turn.Step.TheVariants.{More, Done}
use Rattle.verbs_types.specs.declared.request.Item.{Item}
use Rattle.verbs_types.specs.declared.request.Item.TheVariants.{Request as TheRequest, Receive as TheReceive}
use Rattle.verbs_types.specs.declared.request.Request.{Request}
use Rattle.verbs_types.specs.declared.request.Receive.{Receive}
use Rattle.std.specs.List.{AllByRecursion}
use Rattle.counted_ring.specs.declared.place.WqPlace.{WqPlace}
use Rattle.counted_ring.specs.Poster.{Poster, Stage, Ready, Storing, Naming, Counting, Ringing, at_stage, posted_one, after_post_at, after_ring_at, ring_says_at}
use Rattle.bus_core.specs.Operation.{stored}
use Rattle.counted_ring.specs.Place.{is_send, most}
use Rattle.counted_ring.proofs.Parts.{span_few}
use Rattle.counted_ring.specs.PosterView.{PosterTask, after_bring, brought}
use Rattle.counted_ring.specs.Rung.{Rung, rung_at, rung_after}
use Rattle.provider_post.specs.declared.call.Call.{Call}
use Rattle.provider_post.specs.declared.answer.PostAnswer.{PostAnswer}
use Rattle.provider_post.specs.Call.{fresh_call, is_written, mark_at, told_of, call_after, answer_of, answer_with}
use Rattle.provider_post.specs.Rule.{after_post_side, next_call, post_side_call}
use Rattle.provider_post.specs.Side.{PostView, PostTurn, IsListOf, IsNext, call_of, rule_of, with_call}
use Rattle.provider_post.specs.Item.{CanCarry, CanReceive, CanTake}
use Rattle.provider_post.proofs.Items.{left_is}

-- the side stands where the rule does, and has no call where the rule is at its end
pub after_turn : (old new : PostView) (items : List Item) (e : BusEntry) (answer : Step (Unit {0}) PostAnswer) → PostTurn old new items e answer
    → after_post_side old.poster.place (rule_of old) e ≡ option_map (λ (c : Call). record { poster = new.poster.side; call = c }) new.call
after_turn old new items e answer t = ap (λ (p : Poster). option_map (λ (c : Call). record { poster = p; call = c }) (post_side_call old.poster.place (rule_of old) e)) (sym t.side) ∙ ap (option_map (λ (c : Call). record { poster = new.poster.side; call = c })) (sym t.call)

-- it is done exactly where no call is left, and then it answers what the call came to
pub answers : (old new : PostView) (items : List Item) (e : BusEntry) (answer : Step (Unit {0}) PostAnswer) → PostTurn old new items e answer → answer ≡ answer_with new.call (next_call old.poster.place (rule_of old) e)
answers old new items e answer t = t.answer_is ∙ ap (λ (o : Option Call). answer_with o (next_call old.poster.place (rule_of old) e)) (sym t.call)

pub is_over : (old new : PostView) (items : List Item) (e : BusEntry) (answer : Step (Unit {0}) PostAnswer) → PostTurn old new items e answer → new.call ≡ None → answer ≡ Done (answer_of (next_call old.poster.place (rule_of old) e))
is_over old new items e answer t none = answers old new items e answer t ∙ ap (λ (o : Option Call). answer_with o (next_call old.poster.place (rule_of old) e)) none

pub goes_on : (old new : PostView) (items : List Item) (e : BusEntry) (answer : Step (Unit {0}) PostAnswer) (c : Call) → PostTurn old new items e answer → new.call ≡ Some c → answer ≡ More
goes_on old new items e answer c t some = answers old new items e answer t ∙ ap (λ (o : Option Call). answer_with o (next_call old.poster.place (rule_of old) e)) some

-- Until its record is stored, a call leaves what was rung before it.
ring_keeps : (stage : Stage) (c : Call) (side : Poster) (rung : Rung) → (call_after c (told_of (ring_says_at stage))).recorded ≡ false → rung_at stage side rung ≡ rung
ring_keeps Ready c side rung unrecorded = absurd cc
ring_keeps (Storing words) c side rung unrecorded = refl
ring_keeps (Naming words) c side rung unrecorded = refl
ring_keeps (Counting words id) c side rung unrecorded = refl
ring_keeps Ringing c side rung unrecorded = refl

keeps : (written : Bool) (place : WqPlace) (c : Call) (side : Poster) (rung : Rung) (e : BusEntry) → (call_after c (told_of (brought place side (mark_at written) e))).recorded ≡ false → rung_after (mark_at written) side rung ≡ rung
keeps false place c side rung e unrecorded = refl
keeps true place c side rung e unrecorded = ring_keeps side.stage c side rung unrecorded

pub rung_kept : (old new : PostView) (items : List Item) (e : BusEntry) (answer : Step (Unit {0}) PostAnswer) (c : Call) → PostTurn old new items e answer → new.call ≡ Some c → c.recorded ≡ false → new.poster.rung ≡ old.poster.rung
rung_kept old new items e answer c t some unrecorded =
    let next_is = left_is _ (next_call old.poster.place (rule_of old) e) c (sym t.call ∙ some) in
    t.rung ∙ keeps (is_written (call_of old)) old.poster.place (call_of old) old.poster.side old.poster.rung e (ap (λ (k : Call). k.recorded) next_is ∙ unrecorded)

-- a list of a call that begins at rest
pub list_begins : (v : PostView) (items : List Item) (count : ℕ) → v.poster.task ≡ None → length items ≡ count → ((k : ℕ) (item : Item) → slice_get items k ≡ Some item → CanTake v.poster.place item) → IsListOf (with_call v (Some (fresh_call count))) items
list_begins v items count none long taken = record { count = long; taken = taken; next = subst (λ (t : Option PosterTask). IsNext v.poster.place v.queue v.poster.side.index (slice_get items 0) t) (sym none) tt }

-- each item of a list can be taken where each request can be carried, or each receive has room
pub requests_taken : (place : WqPlace) (list : List Request) → AllByRecursion CanCarry list → (k : ℕ) (item : Item) → slice_get (map TheRequest list) k ≡ Some item → CanTake place item
requests_taken place [] all k item found = absurd cc
requests_taken place (r ∷ list) all zero item found = subst (λ (i : Item). CanTake place i) (let same : TheRequest r ≡ item = cc in same) all.0
requests_taken place (r ∷ list) all (suc k) item found = requests_taken place list all.1 k item found

pub receives_taken : (place : WqPlace) (list : List Receive) → AllByRecursion (CanReceive place) list → (k : ℕ) (item : Item) → slice_get (map TheReceive list) k ≡ Some item → CanTake place item
receives_taken place [] all k item found = absurd cc
receives_taken place (r ∷ list) all zero item found = subst (λ (i : Item). CanTake place i) (let same : TheReceive r ≡ item = cc in same) all.0
receives_taken place (r ∷ list) all (suc k) item found = receives_taken place list all.1 k item found

-- an operation posts at most one item more
pub record Rises (place : WqPlace) (p p' : Poster) : Type 0 where
  pub count : p'.count ≤ p.count + 1
  pub index : p'.index ≤ p.index + most place

rests : (place : WqPlace) (p : Poster) (stage : Stage) → Rises place p (at_stage p stage)
rests place p stage = record { count = omega arith; index = omega arith }

one_more : (place : WqPlace) (p : Poster) (words : List ℕ) → Rises place p (posted_one place p words)
one_more place p words = record { count = omega arith; index = omega (arith, span_few place (slice_index words 0)) }

named : (place : WqPlace) (p : Poster) (words : List ℕ) (id : ℕ) (send : Bool) → Rises place p (cond send (at_stage p (Counting words id)) (posted_one place p words))
named place p words id true = rests place p (Counting words id)
named place p words id false = one_more place p words

posts : (place : WqPlace) (p : Poster) (stage : Stage) (e : BusEntry) → Rises place p (after_post_at place p stage e)
posts place p Ready e = record { count = omega arith; index = omega arith }
posts place p (Storing words) e = rests place p _
posts place p (Naming words) e = named place p words (stored e) (is_send place)
posts place p (Counting words id) e = one_more place p words
posts place p Ringing e = record { count = omega arith; index = omega arith }

rings : (place : WqPlace) (p : Poster) (stage : Stage) → Rises place p (after_ring_at place p stage)
rings place p Ready = rests place p _
rings place p (Storing words) = record { count = omega arith; index = omega arith }
rings place p (Naming words) = record { count = omega arith; index = omega arith }
rings place p (Counting words id) = record { count = omega arith; index = omega arith }
rings place p Ringing = rests place p Ready

brings : (written : Bool) (place : WqPlace) (p : Poster) (e : BusEntry) → Rises place p (after_bring place p (mark_at written) e)
brings false place p e = posts place p p.stage e
brings true place p e = rings place p p.stage

pub rises : (old new : PostView) (items : List Item) (e : BusEntry) (answer : Step (Unit {0}) PostAnswer) → PostTurn old new items e answer → Rises old.poster.place old.poster.side new.poster.side
rises old new items e answer t = subst (λ (p : Poster). Rises old.poster.place old.poster.side p) (sym t.side) (brings (is_written (call_of old)) old.poster.place old.poster.side e)
