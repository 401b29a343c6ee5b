-- A turn of a thread, from the operation of the side that its call goes on at.
use Rattle.std.proofs.Common.{◌≡◌, ℕ, ◌-◌, ◌<◌, refl, sym, ap, ◌∙◌, subst, List, length, map, slice_get, slice_set, Option, None, Some, Bor}
use Rattle.std.proofs.lemmas.Option.{slice_get_past, slice_get_read}
use Rattle.std.specs.Slice.{IsItemAt}
use Rattle.bus_core.specs.declared.operation.BusEntry.{BusEntry}
use Rattle.verbs_types.specs.declared.call.Call.{Call}
use Rattle.verbs_types.specs.declared.call.Call.TheVariants.{Post, Recv, Poll, Drain}
use Rattle.verbs_types.specs.declared.completion.Completion.{Completion}
use Rattle.verbs_types.specs.declared.completion.Queue.{Queue}
use Rattle.verbs_types.specs.declared.completion.Queue.TheVariants as queues
use Rattle.verbs_types.specs.declared.declaration.TheConstants.{FIRST_QP}
use Rattle.verbs_types.specs.declared.request.Item.TheVariants.{Request as TheRequest, Receive as TheReceive}
use Rattle.verbs_types.specs.declared.request.Receive.{Receive}
use Rattle.verbs_types.specs.declared.request.Request.{Request}
use Rattle.object_places.specs.Apart.{ArePlaced}
use Rattle.provider_post.specs.Side.{PostView}
use Rattle.provider_poll.specs.Poll.{PollView}
use Rattle.thread_actor.specs.declared.polls.Polled.{Polled}
use Rattle.thread_actor.specs.declared.posts.Posted.{Posted}
use Rattle.thread_actor.specs.declared.progress.Progress.{Progress}
use Rattle.thread_actor.specs.Calls.{CanCall}
use Rattle.thread_actor.specs.Polls.{Polls, note_in_drain}
use Rattle.thread_actor.specs.Posts.{Posts}
use Rattle.thread_actor.specs.Progress.{after_post, after_poll, after_drain}
use Rattle.thread_actor.specs.Stands.{IsThread}
use Rattle.thread_actor.specs.View.{ThreadView}
use Rattle.thread_actor.proofs.Places.{MovesPost, MovesPoll, with_sends, with_receives, with_polls, moves_send, moves_receive, moves_poll}
use Rattle.thread_actor.proofs.PostTurns.{Goes, is_send, is_receive, post_goes}
use Rattle.thread_actor.proofs.PollTurns.{poll_goes, drain_goes}
use Rattle.thread_actor.proofs.ReadyPosts.{send_there, receive_there}
use Rattle.thread_actor.proofs.Resting.{moved, each_at}

-- the call that a slice of the calls gave
pub call_found : (calls program : List Call) (k : ℕ) (call : Call) (given : Bor Call) → calls ≡ program → IsItemAt calls k (Some given) → given.now ≡ call → slice_get program k ≡ Some call
call_found calls program k call given same found is =
    subst (λ (cs : List Call). slice_get cs k ≡ Some call) same (slice_get_read calls (length calls) k given.now refl found.3.0 found.1 ∙ ap (λ (c : Call). Some c) is)

pub none_found : (calls program : List Call) (k : ℕ) → calls ≡ program → IsItemAt calls k None → slice_get program k ≡ None
none_found calls program k same past = subst (λ (cs : List Call). slice_get cs k ≡ None) same (slice_get_past calls k past.3)

-- how far a thread has come
abbrev pub progress_of : ThreadView → Progress
progress_of v = record { finished = v.finished; taken = v.taken }

module _ (v : ThreadView) (stands : IsThread v) (placed : ArePlaced) (e : BusEntry) (p : Progress) where
  pub send_turn : (qp : ℕ) (requests : List Request) (new : List (Option PostView)) (posted : Posted) → slice_get v.program v.finished ≡ Some (Post qp requests)
      → Posts v.sides.sends new (qp - FIRST_QP) (map TheRequest requests) e posted → p ≡ after_post (progress_of v) posted.is_over
      → Goes v (moved v p.finished p.taken v.given (with_sends v.sides new)) e posted.noted
  send_turn qp requests new posted found posts is =
      post_goes v (with_sends v.sides new) (Post qp requests) (queues.Send qp) (map TheRequest requests) (is_send qp requests) stands found posts.before posts.after
      (subst (λ (sides : List (Option PostView)). MovesPost v.sides (with_sends v.sides sides) (queues.Send qp) posts.before posts.after) (sym posts.sides)
      (moves_send v.sides qp posts.before posts.after (send_there v stands qp requests found).least posts.found))
      e posted posts.goes placed p is

  pub receive_turn : (qp : ℕ) (receives : List Receive) (new : List (Option PostView)) (posted : Posted) → slice_get v.program v.finished ≡ Some (Recv qp receives)
      → Posts v.sides.receives new (qp - FIRST_QP) (map TheReceive receives) e posted → p ≡ after_post (progress_of v) posted.is_over
      → Goes v (moved v p.finished p.taken v.given (with_receives v.sides new)) e posted.noted
  receive_turn qp receives new posted found posts is =
      post_goes v (with_receives v.sides new) (Recv qp receives) (queues.Recv qp) (map TheReceive receives) (is_receive qp receives) stands found posts.before posts.after
      (subst (λ (sides : List (Option PostView)). MovesPost v.sides (with_receives v.sides sides) (queues.Recv qp) posts.before posts.after) (sym posts.sides)
      (moves_receive v.sides qp posts.before posts.after (receive_there v stands qp receives found).least posts.found))
      e posted posts.goes placed p is

  module _ (given : List Completion) (out : Polled) (new : List (Option PollView)) (cq : ℕ) where
    moves : (most : ℕ) (polls : Polls v.sides.polls new cq most v.given given e out) → MovesPoll v.sides (with_polls v.sides new) cq polls.before polls.after
    moves most polls = subst (λ (sides : List (Option PollView)). MovesPoll v.sides (with_polls v.sides sides) cq polls.before polls.after) (sym polls.sides)
        (moves_poll v.sides cq polls.before polls.after polls.found)

    pub poll_turn : (most : ℕ) → slice_get v.program v.finished ≡ Some (Poll cq most) → Polls v.sides.polls new cq most v.given given e out → p ≡ after_poll (progress_of v) out.taken
        → Goes v (moved v p.finished p.taken given (with_polls v.sides new)) e out.noted
    poll_turn most found polls is =
        poll_goes v (with_polls v.sides new) cq most (each_at (CanCall v.lines) v.program v.finished (Poll cq most) found stands.calls).fits.0 stands found polls.before polls.after (moves most polls)
        given e out polls.goes placed p is

    pub drain_turn : (count : ℕ) → slice_get v.program v.finished ≡ Some (Drain cq count) → Polls v.sides.polls new cq 1 v.given given e out → p ≡ after_drain (progress_of v) count out.taken
        → Goes v (moved v p.finished p.taken given (with_polls v.sides new)) e (note_in_drain out)
    drain_turn count found polls is =
        drain_goes v (with_polls v.sides new) cq count stands found polls.before polls.after (moves 1 polls) given e out polls.goes placed p is
