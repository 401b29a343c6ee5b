-- Operations of a poll as turns of its side.
use Rattle.bus_core.specs.declared.turn.Step.{Step}
use Rattle.verbs_types.specs.declared.completion.Completion.{Completion}
use Rattle.owner_ring.specs.Place.{size}
use Rattle.cq_pair.specs.declared.place.CqPlace.{CqPlace}
use Rattle.cq_pair.specs.Place.{ring_of}
use Rattle.counted_ring.specs.declared.place.WqPlace.{WqPlace}
use Rattle.object_places.specs.Places.{IsWithin}
use Rattle.provider_poll.specs.declared.answer.PollAnswer.{PollAnswer}
use Rattle.std.proofs.Common.{◌≡◌, ℕ, ◌+◌, ◌*◌, ◌<◌, ◌≤◌, All, refl, sym, subst, ap, ◌∙◌, List, [], ◌∷◌, map, Option, Some, None}
use Rattle.arrayvec.specs.ArrayVec.{ArrayVec}
use Rattle.bus_core.specs.declared.operation.BusEntry.{BusEntry}
use Rattle.bus_core.specs.declared.turn.Note.{Note}
use Rattle.cqe_format.specs.declared.completion.Cqe.{Cqe}
use Rattle.cq_pair.specs.HostView.{HostView}
use Rattle.counted_ring.specs.Retirer.{Asked}
use Rattle.provider_poll.specs.declared.state.End.{End}
use Rattle.provider_poll.specs.declared.state.PollState.{PollState}
use Rattle.provider_poll.specs.declared.state.PollState.TheVariants.{Polling, LookingUp, Retiring, Acking}
use Rattle.provider_poll.specs.declared.poll_step.PollStep.{PollStep}
use Rattle.provider_poll.specs.SendQueue.{SendView, asking, asking_with}
use Rattle.provider_poll.specs.Turns.{Looks, LooksUp, Retires, Acknowledges, InQueue, places}
use Rattle.provider_poll.specs.FollowsRule.{queue_place, place_of}
use Rattle.provider_poll.specs.Poll.{PollView, SideTurn, LiesWithin}
use Rattle.provider_poll.specs.Rule.{PollPlace, QueuePlace}
use Rattle.provider_poll.proofs.Places.{stays}

pub asking_stays : (counter : ℕ) (q : SendView) → (asking counter q).place ≡ q.place
asking_stays counter q = at_asked q.side.asked where
  at_asked : (asked : Option Asked) → (asking_with counter q asked).place ≡ q.place
  at_asked None = refl
  at_asked (Some a) = refl

queue_stays : (old new : List SendView) (queue : ℕ) (before after : SendView) → InQueue old new queue before after → after.place ≡ before.place → places new ≡ places old
queue_stays old new queue before after within same = ap places within.queues ∙ stays (λ (q : SendView). q.place) old queue before after within.found same

lying_places : (queues : List SendView) → map (λ (p : QueuePlace). p.place) (map queue_place queues) ≡ places queues
lying_places [] = refl
lying_places (q ∷ queues) = ap (λ rest. q.place ∷ rest) (lying_places queues)

-- a side that stays where it lies
pub stays_within : (words : ℕ) (old new : PollView) → place_of new ≡ place_of old → LiesWithin words old → LiesWithin words new
stays_within words old new same lies =
    let host : new.host.place ≡ old.host.place = ap (λ (p : PollPlace). p.cq) same in
    let queues : places new.queues ≡ places old.queues = sym (lying_places new.queues) ∙ ap (λ (p : PollPlace). map (λ (q : QueuePlace). q.place) p.queues) same ∙ lying_places old.queues in
    record {
      ring = subst (λ (p : CqPlace). (ring_of p).base + 8 * size (ring_of p) ≤ words) (sym host) lies.ring;
      record_word = subst (λ (p : CqPlace). p.dbr < words) (sym host) lies.record_word;
      queues = subst (λ (ps : List WqPlace). All (IsWithin words) ps) (sym queues) lies.queues;
    }

module _ (noted : Option Note) (e : BusEntry) (turned : PollStep) where
  abbrev pub side : HostView → List SendView → PollState → Option Note → PollView
  side h queues state noted = record { host = h; queues = queues; state = state; noted = noted }

  pub looks : (h h' : HostView) (queues : List SendView) (max : ℕ) (ends : ArrayVec End) → Looks h.place.number h h' queues max ends e turned → SideTurn (side h queues (Polling max ends) noted) (side h' queues turned.state turned.noted) e turned.answer
  looks h h' queues max ends t = record {
    turned = turned;
    turns = (t, refl);
    state = refl;
    answer_is = refl;
    noted = refl;
    host_place = t.host_turn.place;
    places = refl;
  }

  pub asks : (h : HostView) (queues queues' : List SendView) (max : ℕ) (ends : ArrayVec End) (c : Cqe) (queue : ℕ) → LooksUp h.place.number h.seen queues queues' max ends c queue e turned → SideTurn (side h queues (LookingUp max ends c queue) noted) (side h queues' turned.state turned.noted) e turned.answer
  asks h queues queues' max ends c queue t = record {
    turned = turned;
    turns = (t, refl);
    state = refl;
    answer_is = refl;
    noted = refl;
    host_place = refl;
    places = queue_stays queues queues' queue t.before t.after t.within (t.queue_turn.retirer.place ∙ asking_stays c.counter t.before);
  }

  pub retires : (h : HostView) (queues queues' : List SendView) (taken : ℕ) (empty : Option ℕ) (first : End) (left : List End) → Retires queues queues' taken empty first left e turned → SideTurn (side h queues (Retiring taken empty (record { items = first ∷ left })) noted) (side h queues' turned.state turned.noted) e turned.answer
  retires h queues queues' taken empty first left t = record {
    turned = turned;
    turns = (t, refl);
    state = refl;
    answer_is = refl;
    noted = refl;
    host_place = refl;
    places = queue_stays queues queues' first.queue t.before t.after t.within t.queue_turn.retirer.place;
  }

  pub acknowledges : (h h' : HostView) (queues : List SendView) (taken : ℕ) (empty : Option ℕ) → Acknowledges h.place.number h h' taken empty e turned → SideTurn (side h queues (Acking taken empty) noted) (side h' queues turned.state turned.noted) e turned.answer
  acknowledges h h' queues taken empty t = record {
    turned = turned;
    turns = (t, refl);
    state = refl;
    answer_is = refl;
    noted = refl;
    host_place = t.host_turn.place;
    places = refl;
  }
