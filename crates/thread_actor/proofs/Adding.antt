-- A side that is added to those of a thread.
use Rattle.std.proofs.Common.{◌≡◌, ◌≢◌, inl, inr, ℕ, suc, ◌+◌, ◌-◌, ◌<◌, ◌≤◌, nat_le, arith, refl, sym, ap, ◌∙◌, subst, true, false, Bool, if◌then◌else◌, List, [], ◌∷◌, length, get_or, unwrap_or, slice_get, slice_set, Option, None, Some, IsSome, is_some, IsTrue}
use borrow.Author.Count.{below_more}
use Rattle.std.specs.List.{AllByRecursion}
use Rattle.std.proofs.Math.ListN.{length-set}
use Rattle.std.proofs.lemmas.Bool.{false≢true}
use Rattle.std.proofs.lemmas.Option.{slice_get_read}
use Rattle.std.proofs.lemmas.Bool.Decides.{eqb_tells}
use Rattle.verbs_types.specs.declared.call.Call.{Call}
use Rattle.verbs_types.specs.declared.completion.Queue.{Queue}
use Rattle.verbs_types.specs.declared.completion.Queue.TheVariants as queues
use Rattle.verbs_types.specs.declared.declaration.Lines.{Lines}
use Rattle.verbs_types.specs.declared.declaration.TheConstants.{FIRST_QP}
use Rattle.verbs_types.specs.Lines.{is_among}
use Rattle.verbs_rules.specs.Shape.{Shape, Posts, Takes, shape_of}
use Rattle.actor_map.specs.Sizes.{words_of}
use Rattle.object_places.specs.Places.{IsWithin, send_of, receive_of, qp_line}
use Rattle.object_places.proofs.Lines.{qp_number, cq_number}
use Rattle.provider_post.specs.Side.{PostView, fresh_view}
use Rattle.provider_poll.specs.Fresh.{fresh_poll}
use Rattle.provider_poll.specs.Poll.{PollView, LiesWithin}
use Rattle.actor_rules.specs.Thread.{queue_place, queue_start}
use Rattle.thread_actor.specs.NewSides.{IsNewPost, IsNewPoll, AreNew, AddsPost, AddsPoll}
use Rattle.thread_actor.specs.Sides.{SidesView, joined, side_at, pair_side, post_side, poll_side, IfThere}
use Rattle.thread_actor.specs.Stands.{HasSide, HasSideIn}
use Rattle.thread_actor.proofs.Places.{set_here, set_there, pair_is, pair_there, with_sends, with_receives, with_polls}

-- sides by number, to which one is added
module _ {S : Type 0} (old new : ℕ → Option S) (n : ℕ) (side : S) (here : new n ≡ Some side) (there : (k : ℕ) → k ≢ n → new k ≡ old k) where
  all_there : (P : ℕ → S → Type 0) → P n side → ((k : ℕ) → IfThere (P k) (old k)) → (k : ℕ) → IfThere (P k) (new k)
  all_there P this those k = elim (eqb_tells k n) [
    | inl same ↦ subst (λ (j : ℕ). IfThere (P j) (new j)) (sym same.1) (subst (IfThere (P n)) (sym here) this)
    | inr apart ↦ subst (IfThere (P k)) (sym (there k apart.1)) (those k)
  ]

  kept_there : (k : ℕ) → IsSome (old k) → IsSome (new k)
  kept_there k some = elim (eqb_tells k n) [
    | inl same ↦ subst (λ (j : ℕ). IsSome (new j)) (sym same.1) (subst (λ (o : Option S). IsSome o) (sym here) refl)
    | inr apart ↦ subst (λ (o : Option S). IsSome o) (sym (there k apart.1)) some
  ]

module _ (d : Lines) (s : SidesView) (fresh : AreNew d s) where
  pub stays_post : (queue : Queue) → IsSome (post_side s queue) → AddsPost d s s queue
  stays_post queue some = record { are_new = fresh; has = some; kept = λ other h. h }

  pub stays_poll : (cq : ℕ) → IsSome (poll_side s cq) → AddsPoll d s s cq
  stays_poll cq some = record { are_new = fresh; has = some; kept = λ other h. h }

  module _ (qp : ℕ) (side : PostView) (least : FIRST_QP ≤ qp) where
    abbrev sends : List (Option PostView)
    sends = slice_set s.sends (qp - FIRST_QP) (Some side)

    abbrev receives : List (Option PostView)
    receives = slice_set s.receives (qp - FIRST_QP) (Some side)

    pub adds_send : slice_get s.sends (qp - FIRST_QP) ≡ Some None → IsNewPost d (queues.Send qp) side → AddsPost d s (with_sends s (slice_set s.sends (qp - FIRST_QP) (Some side))) (queues.Send qp)
    adds_send found new = record {
      are_new = record {
        declared = fresh.declared;
        sends = length-set s.sends (qp - FIRST_QP) (Some side) ∙ fresh.sends;
        receives = fresh.receives;
        polls = fresh.polls;
        posts = posts;
        takes = fresh.takes;
      };
      has = subst (λ (o : Option PostView). IsSome o) (sym here) refl;
      kept = λ other h. kept (shape_of other) h;
    } where
      here : pair_side sends qp ≡ Some side
      here = pair_is sends qp side least (set_here s.sends (qp - FIRST_QP) None (Some side) found)

      there : (k : ℕ) → k ≢ qp → pair_side sends k ≡ pair_side s.sends k
      there k differ = pair_there s.sends qp k side least differ

      posts : (queue : Queue) → IfThere (IsNewPost d queue) (post_side (with_sends s sends) queue)
      posts (queues.Send k) = all_there (pair_side s.sends) (pair_side sends) qp side here there (λ n. IsNewPost d (queues.Send n)) new (λ n. fresh.posts (queues.Send n)) k
      posts (queues.Recv k) = fresh.posts (queues.Recv k)
      posts (queues.Shared k) = tt

      kept : (other : Shape) → HasSideIn s other → HasSideIn (with_sends s sends) other
      kept (Posts (queues.Send k) items) h = kept_there (pair_side s.sends) (pair_side sends) qp side here there k h
      kept (Posts (queues.Recv k) items) h = h
      kept (Posts (queues.Shared k) items) h = h
      kept (Takes cq taking) h = h

    pub adds_receive : slice_get s.receives (qp - FIRST_QP) ≡ Some None → IsNewPost d (queues.Recv qp) side → AddsPost d s (with_receives s (slice_set s.receives (qp - FIRST_QP) (Some side))) (queues.Recv qp)
    adds_receive found new = record {
      are_new = record {
        declared = fresh.declared;
        sends = fresh.sends;
        receives = length-set s.receives (qp - FIRST_QP) (Some side) ∙ fresh.receives;
        polls = fresh.polls;
        posts = posts;
        takes = fresh.takes;
      };
      has = subst (λ (o : Option PostView). IsSome o) (sym here) refl;
      kept = λ other h. kept (shape_of other) h;
    } where
      here : pair_side receives qp ≡ Some side
      here = pair_is receives qp side least (set_here s.receives (qp - FIRST_QP) None (Some side) found)

      there : (k : ℕ) → k ≢ qp → pair_side receives k ≡ pair_side s.receives k
      there k differ = pair_there s.receives qp k side least differ

      posts : (queue : Queue) → IfThere (IsNewPost d queue) (post_side (with_receives s receives) queue)
      posts (queues.Send k) = fresh.posts (queues.Send k)
      posts (queues.Recv k) = all_there (pair_side s.receives) (pair_side receives) qp side here there (λ n. IsNewPost d (queues.Recv n)) new (λ n. fresh.posts (queues.Recv n)) k
      posts (queues.Shared k) = tt

      kept : (other : Shape) → HasSideIn s other → HasSideIn (with_receives s receives) other
      kept (Posts (queues.Send k) items) h = h
      kept (Posts (queues.Recv k) items) h = kept_there (pair_side s.receives) (pair_side receives) qp side here there k h
      kept (Posts (queues.Shared k) items) h = h
      kept (Takes cq taking) h = h

  module _ (cq : ℕ) (side : PollView) where
    abbrev polls : List (Option PollView)
    polls = slice_set s.polls cq (Some side)

    pub adds_poll : slice_get s.polls cq ≡ Some None → IsNewPoll d cq side → AddsPoll d s (with_polls s (slice_set s.polls cq (Some side))) cq
    adds_poll found new = record {
      are_new = record {
        declared = fresh.declared;
        sends = fresh.sends;
        receives = fresh.receives;
        polls = length-set s.polls cq (Some side) ∙ fresh.polls;
        posts = posts;
        takes = all_there (side_at s.polls) (side_at polls) cq side here there (IsNewPoll d) new fresh.takes;
      };
      has = subst (λ (o : Option PollView). IsSome o) (sym here) refl;
      kept = λ other h. kept (shape_of other) h;
    } where
      here : side_at polls cq ≡ Some side
      here = ap joined (set_here s.polls cq None (Some side) found)

      there : (k : ℕ) → k ≢ cq → side_at polls k ≡ side_at s.polls k
      there k differ = ap joined (set_there s.polls cq k (Some side) differ)

      posts : (queue : Queue) → IfThere (IsNewPost d queue) (post_side (with_polls s polls) queue)
      posts (queues.Send k) = fresh.posts (queues.Send k)
      posts (queues.Recv k) = fresh.posts (queues.Recv k)
      posts (queues.Shared k) = tt

      kept : (other : Shape) → HasSideIn s other → HasSideIn (with_polls s polls) other
      kept (Posts (queues.Send k) items) h = h
      kept (Posts (queues.Recv k) items) h = h
      kept (Posts (queues.Shared k) items) h = h
      kept (Takes k taking) h = kept_there (side_at s.polls) (side_at polls) cq side here there k h

-- the item that is read at a place
found_at : {X : Type 0} (xs : List X) (k j : ℕ) (item : X) → k ≡ j → j < length xs → item ≡ get_or xs k item → slice_get xs j ≡ Some item
found_at xs k j item same below is = slice_get_read xs (length xs) j item refl below (is ∙ ap (λ (n : ℕ). get_or xs n item) same)

none_is : {S : Type 0} (o : Option S) → is_some o ≡ false → o ≡ None
none_is None none = refl
none_is (Some side) none = absurd (false≢true (sym none))

-- at the place of a queue pair's side
module _ (d : Lines) (sides : List (Option PostView)) (all : length sides ≡ length d.qps) (qp place : ℕ) (item : Option PostView)
    (object : IsTrue (is_among FIRST_QP (length d.qps) qp)) (place_is : place ≡ qp - FIRST_QP) (item_is : item ≡ get_or sides place item) where
  pair_found : slice_get sides (qp - FIRST_QP) ≡ Some item
  pair_found = let below = (qp_number d qp object).below in found_at sides place (qp - FIRST_QP) item place_is (omega (arith, below, all)) item_is

  pair_free : is_some item ≡ false → slice_get sides (qp - FIRST_QP) ≡ Some None
  pair_free none = pair_found ∙ ap (λ (o : Option PostView). Some o) (none_is item none)

  pair_taken : is_some item ≡ true → IsSome (pair_side sides qp)
  pair_taken some =
      let low : nat_le FIRST_QP qp ≡ true = (let least = (qp_number d qp object).low in grind (arith, least)) in
      subst (λ (b : Bool). IsSome (if b then side_at sides (qp - FIRST_QP) else None)) (sym low) (subst (λ (o : Option (Option PostView)). IsSome (joined o)) (sym pair_found) some)

module _ (d : Lines) (s : SidesView) (fresh : AreNew d s) (qp place : ℕ) (item : Option PostView) (object : IsTrue (is_among FIRST_QP (length d.qps) qp)) (place_is : place ≡ qp - FIRST_QP) where
  least : FIRST_QP ≤ qp
  least = (qp_number d qp object).low

  pub send_stays : item ≡ get_or s.sends place item → is_some item ≡ true → AddsPost d s s (queues.Send qp)
  send_stays item_is some = stays_post d s fresh (queues.Send qp) (pair_taken d s.sends fresh.sends qp place item object place_is item_is some)

  pub receive_stays : item ≡ get_or s.receives place item → is_some item ≡ true → AddsPost d s s (queues.Recv qp)
  receive_stays item_is some = stays_post d s fresh (queues.Recv qp) (pair_taken d s.receives fresh.receives qp place item object place_is item_is some)

  module _ (side : PostView) where
    new_post : (queue : Queue) → side ≡ fresh_view (queue_place d queue) queue (queue_start d queue) → IsWithin (words_of d) (queue_place d queue) → IsNewPost d queue side
    new_post queue is within = record { fresh = is; within = subst (λ (v : PostView). IsWithin (words_of d) v.poster.place) (sym is) within }

    pub send_adds : item ≡ get_or s.sends place item → is_some item ≡ false → side ≡ fresh_view (send_of d qp) (queues.Send qp) (qp_line d qp).start → IsWithin (words_of d) (send_of d qp)
        → AddsPost d s (with_sends s (slice_set s.sends place (Some side))) (queues.Send qp)
    send_adds item_is none is within = subst (λ (k : ℕ). AddsPost d s (with_sends s (slice_set s.sends k (Some side))) (queues.Send qp)) (sym place_is)
        (adds_send d s fresh qp side least (pair_free d s.sends fresh.sends qp place item object place_is item_is none) (new_post (queues.Send qp) is within))

    pub receive_adds : item ≡ get_or s.receives place item → is_some item ≡ false → side ≡ fresh_view (receive_of d qp) (queues.Recv qp) (qp_line d qp).start → IsWithin (words_of d) (receive_of d qp)
        → AddsPost d s (with_receives s (slice_set s.receives place (Some side))) (queues.Recv qp)
    receive_adds item_is none is within = subst (λ (k : ℕ). AddsPost d s (with_receives s (slice_set s.receives k (Some side))) (queues.Recv qp)) (sym place_is)
        (adds_receive d s fresh qp side least (pair_free d s.receives fresh.receives qp place item object place_is item_is none) (new_post (queues.Recv qp) is within))

module _ (d : Lines) (s : SidesView) (fresh : AreNew d s) (cq : ℕ) (item : Option PollView) (object : IsTrue (is_among 0 (length d.cqs) cq)) (item_is : item ≡ get_or s.polls cq item) where
  poll_found : slice_get s.polls cq ≡ Some item
  poll_found = let below = cq_number d cq object in let all = fresh.polls in found_at s.polls cq cq item refl (omega (arith, below, all)) item_is

  pub poll_stays : is_some item ≡ true → AddsPoll d s s cq
  poll_stays some = stays_poll d s fresh cq (subst (λ (o : Option (Option PollView)). IsSome (joined o)) (sym poll_found) some)

  pub poll_adds : (side : PollView) → is_some item ≡ false → side ≡ fresh_poll d cq → LiesWithin (words_of d) side → AddsPoll d s (with_polls s (slice_set s.polls cq (Some side))) cq
  poll_adds side none is within = adds_poll d s fresh cq side (poll_found ∙ ap (λ (o : Option PollView). Some o) (none_is item none)) (record { fresh = is; within = within })

-- the sides of the first so many calls, and of one more
pub has_more : (old new : SidesView) (calls : List Call) (count : ℕ) (call : Call) → slice_get calls count ≡ Some call → ((other : Call) → HasSide old other → HasSide new other) → HasSide new call
    → ((k : ℕ) (other : Call) → k < count → slice_get calls k ≡ Some other → HasSide old other) → (k : ℕ) (other : Call) → k < count + 1 → slice_get calls k ≡ Some other → HasSide new other
has_more old new calls count call found kept has before k other below at_k =
    below_more (λ (j : ℕ). (each : Call) → slice_get calls j ≡ Some each → HasSide new each) count (λ j low each at_j. kept each (before j each low at_j))
    (λ each at_j. subst (HasSide new) (ap (λ (o : Option Call). unwrap_or o call) (sym found ∙ at_j)) has) k below other at_k

pub each_from : {X : Type 0} (P : X → Type 0) (xs : List X) → ((k : ℕ) (x : X) → slice_get xs k ≡ Some x → P x) → AllByRecursion P xs
each_from P [] f = tt
each_from P (x ∷ xs) f = (f 0 x refl, each_from P xs (λ k y there. f (suc k) y there))
