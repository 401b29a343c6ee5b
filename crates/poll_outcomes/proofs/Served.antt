-- An operation of a poll on the words of a send queue, and the retirers after it.
use Rattle.std.proofs.Common.{◌≡◌, ◌≢◌, ℕ, inl, inr, sym, ap, ◌∙◌, subst, arith, ◌<◌, ◌-◌, true, List, length, slice_get, slice_set, unwrap_or, Option, Some}
use Rattle.std.proofs.lemmas.List.{get_or-set_same, get_or-set_other}
use Rattle.std.proofs.Math.ListN.{length-set}
use Rattle.bus_core.specs.declared.operation.BusEntry.{BusEntry}
use Rattle.bus_core.specs.Trace.{Memory, after_entry, Tells}
use Rattle.verbs_types.specs.declared.completion.Completion.{Completion}
use Rattle.verbs_types.specs.declared.completion.Queue.TheVariants.{Send}
use Rattle.verbs_types.specs.declared.declaration.Lines.{Lines}
use Rattle.verbs_types.specs.declared.state.Unpolled.{Unpolled}
use Rattle.verbs_rules.specs.State.{Verbs}
use Rattle.cqe_format.specs.declared.completion.Cqe.{Cqe}
use Rattle.counted_ring.specs.Place.{IsPlace}
use Rattle.counted_ring.specs.Mark.{WqMark}
use Rattle.counted_ring.specs.Queue.{IsTaken}
use Rattle.counted_ring.specs.Retirer.{Retirer}
use Rattle.counted_ring.specs.RetirerView.{MayServe, after_serve, served}
use Rattle.counted_ring.specs.Law.{fresh_finder}
use Rattle.counted_ring.proofs.Tied as requests
use Rattle.counted_ring.proofs.RetirerStep.{retirer_step}
use Rattle.counted_ring.proofs.Says.{serve_inside}
use Rattle.object_places.specs.Objects.{Sends, touches}
use Rattle.object_places.specs.Places.{send_of}
use Rattle.provider_poll.specs.declared.poll_step.PollStep.{PollStep}
use Rattle.provider_poll.specs.Rule.{PollRule, OnQueue, MayServeIn, queues_of}
use Rattle.provider_poll.specs.RuleStep.{asked_in, asked_with, retirers_with, poll_side_step, after_poll_side}
use Rattle.provider_poll.specs.SendQueue.{SendView}
use Rattle.provider_poll.specs.Fresh.{poll_place, senders}
use Rattle.actor_rules.specs.Polling.{place_in}
use Rattle.verbs_laws.proofs.Choices.{either}
use Rattle.actor_rules.specs.View.{View}
use Rattle.actor_rules.specs.Objects.{Lists, retirer_in}
use Rattle.actor_rules.specs.Completions.{IsCompletion, HasPlace}
use Rattle.actor_rules.proofs.PollPlaces.{same_pair, living_by_place}
use Rattle.poll_outcomes.proofs.Lists.{view, view_there}
use Rattle.poll_outcomes.specs.Now.{PollNow}
use Rattle.poll_outcomes.proofs.Ready.{views, Finds, finds_now}

module _ (d : Lines) (m : Memory) (around : View) (cq most : ℕ) (l : Lists) (v : Verbs) (p : PollRule) (given : List Completion) (now : PollNow d m around cq most l v p given) (e : BusEntry)
    (qp : ℕ) (place : HasPlace d cq qp) where
  abbrev pub here : ℕ
  here = place_in d cq qp

  -- its retirer
  abbrev pub side_of : Retirer
  side_of = retirer_in p.retirers (place_in d cq qp)

  pub fine_now : IsPlace (send_of d qp)
  fine_now = (now.mapped.placed d (Sends qp) now.mapped.declared (living_by_place d cq qp place).0).fine

  view_now : slice_get (queues_of (poll_place d cq) p) here ≡ Some (view d qp side_of)
  view_now = view_there d (senders d cq) p.retirers here qp now.stands.retirers place.there

  -- the view that an operation is on is the queue pair's
  pub served_is : (queue : ℕ) (mark : WqMark) (s : MayServeIn (poll_place d cq) p queue mark e) → here ≡ queue → s.served ≡ view d qp side_of
  served_is queue mark s same = ap (λ o. unwrap_or o (view d qp side_of)) (sym s.found ∙ ap (λ (k : ℕ). slice_get (queues_of (poll_place d cq) p) k) (sym same) ∙ view_now)

  module _ (mark : WqMark) where
    abbrev pub side_then : Retirer
    side_then = after_serve (send_of d qp) side_of mark e

    abbrev pub retirers_then : List Retirer
    retirers_then = slice_set p.retirers (place_in d cq qp) side_then

    abbrev pub turn_then : PollStep
    turn_then = asked_in (poll_place d cq) p (views d cq retirers_then) mark e (view d qp side_of) p.state

    -- what the poll makes of it
    pub turns_by : (P : PollRule → PollStep → Type 0) → P (record { host = p.host; seen = p.seen; retirers = retirers_then; state = turn_then.state }) turn_then
        → P (after_poll_side (poll_place d cq) p (OnQueue (place_in d cq qp) mark) e) (poll_side_step (poll_place d cq) p (OnQueue (place_in d cq qp) mark) e)
    turns_by P h = subst (λ (o : Option SendView). P (record { host = p.host; seen = p.seen; retirers = retirers_with p.retirers here mark e o; state = (turn_of o).state }) (turn_of o)) (sym view_now) h
      where
        turn_of : Option SendView → PollStep
        turn_of o = asked_with (poll_place d cq) p (views d cq (retirers_with p.retirers here mark e o)) mark e o

    pub serve_there : MayServe (send_of d qp) side_of mark e → touches d (Sends qp) e.addr ≡ true
    serve_there may = serve_inside (send_of d qp) fine_now e m (around.posters (Send qp)) side_of (around.readers qp) (l.queues (Send qp)) mark (now.sends qp place) may

    pub serve_goes : MayServe (send_of d qp) side_of mark e → Tells m e → requests.Asks (send_of d qp) (l.queues (Send qp)) (served (send_of d qp) side_of mark e)
        → requests.Goes (send_of d qp) (after_entry m e) (around.posters (Send qp)) side_then (around.readers qp) (l.queues (Send qp)) (served (send_of d qp) side_of mark e)
    serve_goes may tells asks = retirer_step (send_of d qp) m (around.posters (Send qp)) side_of (around.readers qp) (l.queues (Send qp)) mark e fine_now (now.sends qp place) tells may asks

  -- The retirers, where this one has come so far

  module _ (side : Retirer) where
    abbrev pub retirers_with_side : List Retirer
    retirers_with_side = slice_set p.retirers (place_in d cq qp) side

    inside_list : here < length p.retirers
    inside_list = omega (arith, place.inside, now.stands.retirers)

    pub side_here : retirer_in retirers_with_side here ≡ side
    side_here = get_or-set_same p.retirers here side fresh_finder.retirer inside_list

    pub side_there : (i : ℕ) → i ≢ here → retirer_in retirers_with_side i ≡ retirer_in p.retirers i
    side_there i apart = get_or-set_other p.retirers here i side fresh_finder.retirer apart

    pub sides_long : length retirers_with_side ≡ length (senders d cq)
    sides_long = length-set p.retirers here side ∙ now.stands.retirers

    -- what holds of this one and of the others
    pub side_cases : (P : ℕ → Retirer → Type 0) → P here side → ((i : ℕ) → i ≢ here → P i (retirer_in p.retirers i)) → (i : ℕ) → P i (retirer_in retirers_with_side i)
    side_cases P mine others i = elim (either i here) [
      | inl same ↦ subst (λ (k : ℕ). P k (retirer_in retirers_with_side k)) (sym same) (subst (P here) (sym side_here) mine)
      | inr apart ↦ subst (P i) (sym (side_there i apart)) (others i apart)
    ]

    pub finds_with_side : Finds l qp side → (other : ℕ) → HasPlace d cq other → Finds l other (retirer_in retirers_with_side (place_in d cq other))
    finds_with_side mine other h = elim (either (place_in d cq other) here) [
      | inl same ↦
          let one : other ≡ qp = same_pair d cq other qp h place same in
          subst (λ (i : ℕ). Finds l i (retirer_in retirers_with_side (place_in d cq i))) (sym one) (subst (Finds l qp) (sym side_here) mine)
      | inr apart ↦ subst (Finds l other) (sym (side_there (place_in d cq other) apart)) (finds_now d m around cq most l v p given now other h)
    ]

  -- a completion's request was taken and is not retired
  pub request_taken : (c : Cqe) (u : Unpolled) (counter : ℕ) → u.completion.qp ≡ qp → IsCompletion l c u → (l.queues (Send u.completion.qp)).retired < u.number → counter ≡ c.counter → IsTaken (l.queues (Send qp)) counter (u.number - 1)
  request_taken c u counter same is later asked = subst (λ (i : ℕ). IsTaken (l.queues (Send i)) counter (u.number - 1)) same (record {
    retired = omega (arith, later);
    taken = omega (arith, is.taken, is.some);
    counter_is = asked ∙ ap (λ (x : Cqe). x.counter) is.words;
  })
