-- A call that takes completions can go on: its side is there, and the port has its words.
use Rattle.std.proofs.Common.{◌≡◌, ℕ, ◌+◌, ◌-◌, ◌≤◌, ◌<◌, ◌^◌, arith, refl, sym, ap, ◌∙◌, subst, List, [], ◌∷◌, length, drop, slice_get, Option, None, Some, All}
use Rattle.std.proofs.lemmas.List.Elements.{All-weaker}
use Rattle.bus_core.specs.Port.{Port, HasRoom}
use Rattle.verbs_types.specs.declared.call.Call.{Call}
use Rattle.verbs_types.specs.declared.call.Call.TheVariants.{Poll, Drain}
use Rattle.verbs_types.specs.declared.completion.Completion.{Completion}
use Rattle.actor_map.specs.Sizes.{words_of}
use Rattle.counted_ring.specs.declared.place.WqPlace.{WqPlace}
use Rattle.object_places.specs.Places.{IsWithin}
use Rattle.provider_poll.specs.declared.state.PollState.{PollState}
use Rattle.provider_poll.specs.declared.state.PollState.TheVariants as states
use Rattle.provider_poll.specs.Poll.{PollView, CanPoll, LiesWithin}
use Rattle.provider_poll.specs.Rule.{PollRule}
use Rattle.provider_poll.specs.Turns.{places}
use Rattle.actor_rules.specs.Polling as rules
use Rattle.provider_poll.specs.Fresh.{fresh_rule}
use Rattle.thread_actor.specs.Calls.{CanCall}
use Rattle.thread_actor.specs.Polls.{HasRoomAt, MayGoOn, Ready, CanPollAt}
use Rattle.thread_actor.specs.Sides.{joined, poll_side, IfThere}
use Rattle.thread_actor.specs.Small.{IsSmall, IsHostBelow}
use Rattle.thread_actor.specs.Stands.{IsThread, IsPollSide, IsPolling, IsAtWork, HasSide}
use Rattle.thread_actor.specs.View.{ThreadView, calls_left, left_of, poll_in}
use Rattle.thread_actor.proofs.Places.{drop_there}
use Rattle.thread_actor.proofs.Polling.{rule_begun}
use Rattle.thread_actor.proofs.PollTurns.{IsTake, begins, is_poll, is_drain}
use Rattle.thread_actor.proofs.ReadyPosts.{IsThere, is_there}
use Rattle.thread_actor.proofs.Resting.{each_at}
use Rattle.thread_actor.proofs.Rising.{next_below}

-- a poll that is not done has room for one more completion
room_in : (most : ℕ) (given : List Completion) (state : PollState) → most ≤ 16 → IsPolling most given state → HasRoomAt given state
room_in most given states.Idle few polling = tt
room_in most given (states.Polling asked ends) few polling = omega (arith, polling.given_each, polling.more, few)
room_in most given (states.LookingUp asked ends c queue) few polling = omega (arith, polling.given_each, polling.more, few)
room_in most given (states.Retiring taken empty left) few polling = tt
room_in most given (states.Acking taken empty) few polling = tt

module _ (v : ThreadView) (call now : Call) (cq most : ℕ) (kind : IsTake call now cq most) (stands : IsThread v) (small : IsSmall v)
    (left : calls_left v ≡ now ∷ drop (v.finished + 1) v.program) (few : most ≤ 16) (side : PollView) (was : poll_side v.sides cq ≡ Some side) where
  polling : IsPolling most v.given side.state
  polling = subst (IfThere (λ (s : PollView). IsPolling most v.given s.state)) was (kind.at_work v (drop (v.finished + 1) v.program) (subst (IsAtWork v) left stands.work))

  below : IsHostBelow (2 ^ 61) side.host.side
  below = subst (λ (o : Option PollView). IsHostBelow (2 ^ 61) (poll_in (fresh_rule v.lines cq) o).host) was (small.polls cq)

  may_go_on : MayGoOn side most v.given
  may_go_on = record {
    begin = record { some = kind.some; few = few; index = next_below (2 ^ 61) side.host.side below };
    room = subst (HasRoomAt v.given) (sym (ap (λ (r : PollRule). r.state) (rule_begun side most)))
        (room_in most v.given (rules.begun most side.state) few (begins most v.given side.state kind.some polling));
  }

pub poll_served : {Bus : Type 0} (v : ThreadView) (stands : IsThread v) (port : Port Bus) → words_of v.lines ≤ port.words → HasRoom port.room → (cq : ℕ) → CanPollAt v.sides.polls cq port
poll_served v stands port inside room cq side found =
    let within = (subst (IfThere (IsPollSide v.lines cq)) (ap joined found) (stands.polls cq)).within in
    let ring = within.ring in
    let low = within.record_word in
    record {
      room = room;
      words = record {
        ring = omega (arith, ring, inside);
        record_word = omega (arith, low, inside);
        queues = All-weaker (IsWithin (words_of v.lines)) (IsWithin port.words) wider (places side.queues) within.queues;
      };
    } where
      wider : (p : WqPlace) → IsWithin (words_of v.lines) p → IsWithin port.words p
      wider p h = let first = h.record_word in record { record_word = omega (arith, first, inside); register = λ r is. let last = h.register r is in omega (arith, last, inside) }

module _ (v : ThreadView) (stands : IsThread v) (small : IsSmall v) where
  pub poll_ready : (cq most : ℕ) → slice_get v.program v.finished ≡ Some (Poll cq most) → Ready v.sides.polls cq most v.given
  poll_ready cq most found =
      let spot = is_there v.sides.polls cq (each_at (HasSide v.sides) v.program v.finished (Poll cq most) found stands.sides) in
      let fits = (each_at (CanCall v.lines) v.program v.finished (Poll cq most) found stands.calls).fits in
      record {
        side = spot.side;
        found = spot.found;
        may = may_go_on v (Poll cq most) (Poll cq most) cq most (is_poll cq most fits.0) stands small
            (ap (left_of v.taken) (drop_there v.program v.finished (Poll cq most) found)) fits.1 spot.side (ap joined spot.found);
      }

  pub drain_ready : (cq count : ℕ) → slice_get v.program v.finished ≡ Some (Drain cq count) → Ready v.sides.polls cq 1 v.given
  drain_ready cq count found =
      let spot = is_there v.sides.polls cq (each_at (HasSide v.sides) v.program v.finished (Drain cq count) found stands.sides) in
      record {
        side = spot.side;
        found = spot.found;
        may = may_go_on v (Drain cq count) (Drain cq (count - v.taken)) cq 1 (is_drain cq count (count - v.taken)) stands small
            (ap (left_of v.taken) (drop_there v.program v.finished (Drain cq count) found)) (omega arith) spot.side (ap joined spot.found);
      }
