-- A call that posts can go on: its side is there, and the port has its words.
use Rattle.std.proofs.Common.{◌≡◌, ℕ, ◌+◌, ◌-◌, ◌≤◌, ◌<◌, ◌^◌, arith, refl, sym, ap, ◌∙◌, subst, true, Bool, if◌then◌else◌, nat_le, inl, inr, List, [], ◌∷◌, map, drop, slice_get, Option, None, Some, IsSome, is_some}
use Rattle.std.specs.List.{AllByRecursion}
use Rattle.std.proofs.lemmas.Bool.{cases_Bool, false≢true}
use Rattle.bus_core.specs.Port.{Port, HasRoom}
use Rattle.verbs_types.specs.declared.call.Call.{Call}
use Rattle.verbs_types.specs.declared.call.Call.TheVariants.{Post, Recv}
use Rattle.verbs_types.specs.declared.completion.Queue.{Queue}
use Rattle.verbs_types.specs.declared.completion.Queue.TheVariants as queues
use Rattle.verbs_types.specs.declared.declaration.TheConstants.{FIRST_QP}
use Rattle.verbs_types.specs.declared.request.Item.{Item}
use Rattle.verbs_types.specs.declared.request.Item.TheVariants.{Request as TheRequest, Receive as TheReceive}
use Rattle.verbs_types.specs.declared.request.Receive.{Receive}
use Rattle.verbs_types.specs.declared.request.Request.{Request}
use Rattle.actor_map.specs.Sizes.{words_of}
use Rattle.counted_ring.specs.declared.place.WqPlace.{WqPlace}
use Rattle.counted_ring.specs.Law.{fresh_poster}
use Rattle.counted_ring.specs.Turn.{CanServe}
use Rattle.provider_post.specs.Item.{CanTake}
use Rattle.provider_post.specs.Side.{PostView}
use Rattle.actor_rules.specs.Thread.{queue_place, queue_start}
use Rattle.thread_actor.specs.Calls.{CanCall, CanPost}
use Rattle.thread_actor.specs.Posts.{MayGoOn, Ready, CanServeAt}
use Rattle.thread_actor.specs.Sides.{joined, side_at, pair_side, post_side, IfThere}
use Rattle.thread_actor.specs.Small.{IsSmall, IsPosterBelow}
use Rattle.thread_actor.specs.Stands.{IsThread, IsPostSide, IsPosting, IsPostWork, IsAtWork, HasSide}
use Rattle.thread_actor.specs.View.{ThreadView, calls_left, left_of, poster_in}
use Rattle.thread_actor.proofs.Places.{drop_there, pair_is}
use Rattle.thread_actor.proofs.PostTurns.{IsPost, is_send, is_receive}
use Rattle.thread_actor.proofs.Resting.{each_at}

-- the side that is at a place
pub record IsThere {S : Type 0} (sides : List (Option S)) (place : ℕ) : Type 0 where
  pub side : S
  pub found : slice_get sides place ≡ Some (Some side)

unjoined : {S : Type 0} (o : Option (Option S)) → IsSome (joined o) → (side : S) × (o ≡ Some (Some side))
unjoined None some = absurd (false≢true some)
unjoined (Some None) some = absurd (false≢true some)
unjoined (Some (Some side)) some = (side, refl)

pub is_there : {S : Type 0} (sides : List (Option S)) (place : ℕ) → IsSome (side_at sides place) → IsThere sides place
is_there sides place some = let spot = unjoined (slice_get sides place) some in record { side = spot.0; found = spot.1 }

-- the side of a queue pair, whose number is one of a queue pair
pub record IsPairThere {S : Type 0} (sides : List (Option S)) (qp : ℕ) : Type 0 where
  pub least : FIRST_QP ≤ qp
  pub there : IsThere sides (qp - FIRST_QP)

pub pair_is_there : {S : Type 0} (sides : List (Option S)) (qp : ℕ) → IsSome (pair_side sides qp) → IsPairThere sides qp
pair_is_there sides qp some = elim (cases_Bool (nat_le FIRST_QP qp)) [
  | inl low ↦ record {
    least = grind (arith, low);
    there = is_there sides (qp - FIRST_QP) (subst (λ (b : Bool). IsSome (if b then side_at sides (qp - FIRST_QP) else None)) low some);
  }
  | inr high ↦ absurd (false≢true (subst (λ (b : Bool). IsSome (if b then side_at sides (qp - FIRST_QP) else None)) high some))
]

module _ (v : ThreadView) (call : Call) (queue : Queue) (items : List Item) (kind : IsPost call queue items) (stands : IsThread v) (small : IsSmall v)
    (found : slice_get v.program v.finished ≡ Some call) (fits : CanPost (queue_place v.lines queue) items) (side : PostView) (was : post_side v.sides queue ≡ Some side) where
  abbrev rest : List Call
  rest = drop (v.finished + 1) v.program

  left : calls_left v ≡ call ∷ rest
  left = ap (left_of v.taken) (drop_there v.program v.finished call found) ∙ kind.left v.taken rest

  is : IsPostSide v.lines queue side
  is = subst (IfThere (IsPostSide v.lines queue)) was (stands.posts queue)

  posting : IsPosting items side
  posting = subst (IfThere (IsPosting items)) was (kind.at_work v rest (subst (IsAtWork v) left stands.work)).side

  below : IsPosterBelow (2 ^ 61) side.poster.side
  below = subst (λ (o : Option PostView). IsPosterBelow (2 ^ 61) (poster_in (fresh_poster (queue_start v.lines queue)) o)) was (small.posters queue)

  may_go_on : MayGoOn side items
  may_go_on = record {
    list = posting.list;
    begins = λ none. record {
      taken = subst (λ (p : WqPlace). AllByRecursion (CanTake p) items) (sym is.place) fits.taken;
      task = posting.rests none;
      begin = record { some = fits.some; few = fits.few; posted = below.count; index = below.index };
    };
  }

module _ {Bus : Type 0} (v : ThreadView) (stands : IsThread v) (port : Port Bus) (inside : words_of v.lines ≤ port.words) (room : HasRoom port.room) where
  served : (queue : Queue) (side : PostView) → post_side v.sides queue ≡ Some side → CanServe side.poster.place port
  served queue side was =
      let within = (subst (IfThere (IsPostSide v.lines queue)) was (stands.posts queue)).within in
      let low = within.record_word in
      record { room = room; words = omega (arith, low, inside); register = λ r is. let last = within.register r is in omega (arith, last, inside) }

  pub send_served : (qp : ℕ) → FIRST_QP ≤ qp → CanServeAt v.sides.sends (qp - FIRST_QP) port
  send_served qp least side found = served (queues.Send qp) side (pair_is v.sides.sends qp side least found)

  pub receive_served : (qp : ℕ) → FIRST_QP ≤ qp → CanServeAt v.sides.receives (qp - FIRST_QP) port
  receive_served qp least side found = served (queues.Recv qp) side (pair_is v.sides.receives qp side least found)

module _ (v : ThreadView) (stands : IsThread v) where
  pub send_there : (qp : ℕ) (requests : List Request) → slice_get v.program v.finished ≡ Some (Post qp requests) → IsPairThere v.sides.sends qp
  send_there qp requests found = pair_is_there v.sides.sends qp (each_at (HasSide v.sides) v.program v.finished (Post qp requests) found stands.sides)

  pub receive_there : (qp : ℕ) (receives : List Receive) → slice_get v.program v.finished ≡ Some (Recv qp receives) → IsPairThere v.sides.receives qp
  receive_there qp receives found = pair_is_there v.sides.receives qp (each_at (HasSide v.sides) v.program v.finished (Recv qp receives) found stands.sides)

  pub send_ready : (qp : ℕ) (requests : List Request) → IsSmall v → slice_get v.program v.finished ≡ Some (Post qp requests) → Ready v.sides.sends (qp - FIRST_QP) (map TheRequest requests)
  send_ready qp requests small found = let spot = send_there qp requests found in record {
    side = spot.there.side;
    found = spot.there.found;
    may = may_go_on v (Post qp requests) (queues.Send qp) (map TheRequest requests) (is_send qp requests) stands small found (each_at (CanCall v.lines) v.program v.finished (Post qp requests) found stands.calls).fits
        spot.there.side (pair_is v.sides.sends qp spot.there.side spot.least spot.there.found);
  }

  pub receive_ready : (qp : ℕ) (receives : List Receive) → IsSmall v → slice_get v.program v.finished ≡ Some (Recv qp receives) → Ready v.sides.receives (qp - FIRST_QP) (map TheReceive receives)
  receive_ready qp receives small found = let spot = receive_there qp receives found in record {
    side = spot.there.side;
    found = spot.there.found;
    may = may_go_on v (Recv qp receives) (queues.Recv qp) (map TheReceive receives) (is_receive qp receives) stands small found (each_at (CanCall v.lines) v.program v.finished (Recv qp receives) found stands.calls).fits
        spot.there.side (pair_is v.sides.receives qp spot.there.side spot.least spot.there.found);
  }
