-- A turn of the machine, as a caller is told of it.
use Rattle.std.proofs.Common.{◌≡◌, ℕ, ◌-◌, ◌<◌, refl, sym, ap, subst, arith, List, [], ◌∷◌, length, map, Option, Some, true}
use Rattle.bus_core.specs.declared.operation.BusEntry.{BusEntry}
use Rattle.bus_core.specs.declared.turn.Step.{Step}
use Rattle.bus_core.specs.declared.turn.Step.TheVariants.{More, Gave, Done}
use Rattle.verbs_types.specs.declared.completion.Completion.{Completion}
use Rattle.owner_ring.specs.Consumer.{Consumer, Waiting, Reading}
use Rattle.cq_pair.specs.HostView.{HostView, poll_turns}
use Rattle.counted_ring.specs.declared.place.WqPlace.{WqPlace}
use Rattle.counted_ring.specs.Place as counted
use Rattle.provider_poll.specs.declared.answer.PollAnswer.{PollAnswer}
use Rattle.provider_poll.specs.declared.poll_step.PollStep.{PollStep}
use Rattle.provider_poll.specs.declared.state.End.{End}
use Rattle.provider_poll.specs.declared.state.PollState.{PollState}
use Rattle.provider_poll.specs.declared.state.PollState.TheVariants.{Idle, Polling, LookingUp, Retiring, Acking}
use Rattle.provider_poll.specs.FollowsRule.{FollowsRule, IsInside, OnRing, OnSends, PollTurn, place_of, rule_of, rule_left, turns_left}
use Rattle.provider_poll.specs.Left.{poll_left}
use Rattle.provider_poll.specs.Poll.{PollView, SideTurn, Turns, RetiresFirst}
use Rattle.provider_poll.specs.PollInside.{IsAtWork}
use Rattle.provider_poll.specs.Rule.{PollRule}
use Rattle.provider_poll.specs.RuleStep.{after_poll_side, poll_side_step}
use Rattle.provider_poll.specs.SendQueue.{SendView}
use Rattle.provider_poll.proofs.LeftLoads.{IsHost, IsHostIn, IsUnderWay, Goes, poll_few}
use Rattle.provider_poll.proofs.LeftStores.{poll_goes}
use Rattle.provider_poll.proofs.Rule.{turns_follow}
use Rattle.provider_poll.proofs.Sides.{asking_stays}

module _ (old new : PollView) (e : BusEntry) (answer : Step Completion PollAnswer) (t : SideTurn old new e answer) where
  retires_in : (taken : ℕ) (empty : Option ℕ) (ends : List End) → RetiresFirst old.queues new.queues taken empty ends e t.turned → IsInside old e.addr
  retires_in taken empty [] r = absurd r
  retires_in taken empty (first ∷ left) r = OnSends first.queue r.before r.within.found r.queue_turn.retirer.inside

  inside : (state : PollState) → Turns state old new e t.turned → IsInside old e.addr
  inside Idle r = absurd r
  inside (Polling max ends) r = OnRing r.0.host_turn.inside
  inside (LookingUp max ends c queue) r = OnSends queue r.0.before r.0.within.found (subst (λ (p : WqPlace). counted.touches p e.addr ≡ true) (asking_stays c.counter r.0.before) r.0.queue_turn.retirer.inside)
  inside (Retiring taken empty left) r = retires_in taken empty left.items r.0
  inside (Acking taken empty) r = OnRing r.0.host_turn.inside

  -- a host that has a word to load has not all of its entry
  few_words : (c : Consumer) (left : ℕ) → left < poll_turns c → IsHost c
  few_words (Waiting acked next) left fewer = tt
  few_words (Reading acked next index last words) left fewer = omega (arith, fewer)

  host_in : (state : PollState) → Turns state old new e t.turned → IsHostIn state old.host.side
  host_in Idle r = tt
  host_in (Polling max ends) r = few_words old.host.side _ r.0.host_turn.fewer
  host_in (LookingUp max ends c queue) r = tt
  host_in (Retiring taken empty left) r = tt
  host_in (Acking taken empty) r = tt

  -- how many completions it asked for, and how many it gave
  record UnderWay (state : PollState) : Type 0 where
    most : ℕ
    given : ℕ
    is : IsUnderWay most given state

  under_way : (state : PollState) → IsAtWork old.host old.queues state → Turns state old new e t.turned → UnderWay state
  under_way Idle work r = absurd r
  under_way (Polling max ends) work r = record { most = max; given = length ends.items; is = record { asked = refl; few = work.more; given_are = refl } }
  under_way (LookingUp max ends c queue) work r = record { most = max; given = length ends.items; is = record { asked = refl; few = work.more; given_are = refl } }
  under_way (Retiring taken empty left) work r = record { most = length left.items; given = 0; is = omega arith }
  under_way (Acking taken empty) work r = record { most = 0; given = 0; is = tt }

  less : (most given before : ℕ) (r : PollRule) (a : Step Completion PollAnswer) → 0 < before → Goes most given before r a → rule_left r < before
  less most given before r More some g = g.1
  less most given before r (Gave completion) some g = g.1
  less most given before r (Done done) some g = subst (λ (s : PollState). poll_left r.host r.retirers s < before) (sym g.0) some

  pub turned : IsAtWork old.host old.queues old.state → PollTurn old new e answer
  turned work =
      let follows = turns_follow old new e answer t in
      let u = under_way old.state work t.turns in
      let before = rule_of old in
      let goes = poll_goes (place_of old) u.most u.given before.host before.seen before.retirers e old.state follows.mark (host_in old.state t.turns) u.is follows.may in
      let after = after_poll_side (place_of old) before follows.mark e in
      let some = poll_few u.most u.given before.host before.retirers old.state u.is in
      record {
        follows = follows;
        inside = inside old.state t.turns;
        fewer = subst (λ (r : PollRule). rule_left r < turns_left old) (sym follows.rule) (less u.most u.given (turns_left old) after (poll_side_step (place_of old) before follows.mark e).answer some.0 goes.1);
      }
