-- A load of a lookup by a poll.
use Rattle.std.proofs.Common.{◌≡◌, ℕ, refl, sym, ap, ◌∙◌, subst, arith, ◌<◌, ◌-◌, List, [], length, slice_get, Option, None, Some}
use Rattle.std.proofs.lemmas.Bool.{true≢false}
use Rattle.std.proofs.lemmas.Option.{get_or_from_slice_get}
use Rattle.bus_core.specs.declared.operation.BusEntry.{BusEntry}
use Rattle.bus_core.specs.Trace.{Memory, after_entry, Tells}
use Rattle.verbs_types.specs.declared.completion.Completion.{Completion}
use Rattle.verbs_types.specs.declared.completion.Queue.TheVariants.{Send}
use Rattle.verbs_types.specs.declared.declaration.Lines.{Lines}
use Rattle.verbs_types.specs.declared.state.Unpolled.{Unpolled}
use Rattle.verbs_rules.specs.Rows.{nop_completion}
use Rattle.verbs_rules.specs.State.{Verbs}
use Rattle.owner_ring.specs.Consumer.{Consumer}
use Rattle.cqe_format.specs.declared.completion.Cqe.{Cqe}
use Rattle.counted_ring.specs.Mark.{WqMark, Count}
use Rattle.counted_ring.specs.Queue.{Request, index_of}
use Rattle.counted_ring.specs.Queue as counted
use Rattle.counted_ring.specs.Retirer.{Asked, Retirer, end_after, count_says_for}
use Rattle.counted_ring.specs.RetirerView.{MayServe, is_found, lookup_mark}
use Rattle.counted_ring.proofs.Requests.{request_of}
use Rattle.counted_ring.proofs.Tied as requests
use Rattle.object_places.specs.Places.{send_of}
use Rattle.provider_poll.specs.declared.state.End.{End}
use Rattle.provider_poll.specs.declared.state.PollState.TheVariants as states
use Rattle.provider_poll.specs.declared.poll_step.PollStep.{PollStep}
use Rattle.provider_poll.specs.Completion.{completion_of}
use Rattle.provider_poll.specs.Rule.{PollRule, OnQueue, MayLookUp, lookup_in, found_before}
use Rattle.provider_poll.specs.RuleStep.{retirer_step, poll_side_step, after_poll_side}
use Rattle.provider_poll.specs.SendQueue.{SendView}
use Rattle.provider_poll.specs.PollStep.{with_end, after_lookup}
use Rattle.provider_poll.specs.Fresh.{poll_place}
use Rattle.actor_rules.specs.Polling.{place_in, given_with, load_says}
use Rattle.actor_rules.specs.View.{View}
use Rattle.actor_rules.specs.Objects.{Lists, retirer_in}
use Rattle.actor_rules.specs.Completions.{IsLookedUp, AskedFor, HasPlace}
use Rattle.actor_rules.proofs.PollPlaces.{same_pair}
use Rattle.poll_outcomes.specs.Now.{IsPlaced, PollNow}
use Rattle.poll_outcomes.proofs.Lists.{all_at}
use Rattle.poll_outcomes.specs.Outcome.{Outcome}
use Rattle.poll_outcomes.proofs.Ready.{views, later_now}
use Rattle.load_law.proofs.Counters.{one_counter}
use Rattle.poll_outcomes.proofs.Served.{served_is, side_then, retirers_then, turn_then, turns_by, serve_there, serve_goes, fine_now, request_taken}
use Rattle.load_law.proofs.Named.{named}
use Rattle.load_law.proofs.Found.{given_is, on_found}

module _ (d : Lines) (m : Memory) (around : View) (cq most : ℕ) (l : Lists) (v : Verbs) (c : Consumer) (seen : ℕ) (rs : List Retirer) (es : List End) (cqe : Cqe) (queue : ℕ) (given : List Completion)
    (now : PollNow d m around cq most l v (record { host = c; seen = seen; retirers = rs; state = states.LookingUp most (record { items = es }) cqe queue }) given) (e : BusEntry)
    (qp : ℕ) (place : HasPlace d cq qp) (is_here : place_in d cq qp ≡ queue) (tells : Tells m e) where
  abbrev side : PollRule
  side = record { host = c; seen = seen; retirers = rs; state = states.LookingUp most (record { items = es }) cqe queue }

  abbrev mine : Retirer
  mine = retirer_in rs (place_in d cq qp)

  abbrev q : counted.Queue
  q = l.queues (Send qp)

  abbrev us : List Unpolled
  us = (v.unpolled cq)

  -- the completion that is looked up
  looked : IsLookedUp d cq l cqe queue (slice_get us (length es))
  looked = now.stands.poll.3

  abbrev u : Unpolled
  u = looked.unpolled

  placed : IsPlaced d cq u
  placed = all_at (IsPlaced d cq) us (length es) u now.placed looked.next_is

  same : u.completion.qp ≡ qp
  same = same_pair d cq u.completion.qp qp placed.place place (sym looked.queue_is ∙ sym is_here)

  later : (l.queues (Send u.completion.qp)).retired < u.number
  later = later_now d m around cq most l v side given now refl (length es) u looked.next_is placed

  abbrev Comes : PollRule → PollStep → Type 0
  Comes p turn = Outcome d (after_entry m e) around cq most l v side given p turn.answer (load_says cq most (given_with given turn.answer) turn.state)

  abbrev rs_then : WqMark → List Retirer
  rs_then mark = retirers_then d m around cq most l v side given now e qp place mark

  abbrev turn_by : WqMark → PollStep
  turn_by mark = turn_then d m around cq most l v side given now e qp place mark

  abbrev ComesBy : WqMark → Type 0
  ComesBy mark = Comes (record { host = c; seen = seen; retirers = rs_then mark; state = (turn_by mark).state }) (turn_by mark)

  -- the end is found
  module _ (a : Asked) (is_asked : mine.asked ≡ Some a) (may : MayServe (send_of d qp) mine Count e) where
    asks : requests.Asks (send_of d qp) q (count_says_for mine.asked e)
    asks = subst (λ (o : Option Asked). requests.Asks (send_of d qp) q (count_says_for o e)) (sym is_asked) (λ never. absurd (true≢false never))

    goes : requests.Goes (send_of d qp) (after_entry m e) (around.posters (Send qp)) (side_then d m around cq most l v side given now e qp place Count) (around.readers qp) q (count_says_for (Some a) e)
    goes = subst (λ (o : Option Asked). requests.Goes (send_of d qp) (after_entry m e) (around.posters (Send qp)) (side_then d m around cq most l v side given now e qp place Count) (around.readers qp) q (count_says_for o e)) is_asked
        (serve_goes d m around cq most l v side given now e qp place Count may tells asks)

    asked_counter : a.counter ≡ cqe.counter
    asked_counter = (subst (λ (o : Option Asked). AskedFor (states.LookingUp most (record { items = es }) cqe queue) (place_in d cq qp) o) is_asked (now.stands.asked (place_in d cq qp))).1

    number_is : goes.0.named.number ≡ u.number - 1
    number_is = one_counter (send_of d qp) q (now.sends qp place).shape.order (fine_now d m around cq most l v side given now e qp place) a.counter goes.0.named.number (u.number - 1) goes.0.named.counted
        (request_taken d m around cq most l v side given now e qp place cqe u a.counter same looked.spells later asked_counter)

    end_is : end_after e ≡ u.number
    end_is = omega (arith, goes.0.end_is, number_is, looked.spells.some)

    id_is : a.id ≡ (request_of q (u.number - 1)).id
    id_is =
        goes.0.named.id_is
        ∙ ap (λ (r : Request). r.id) (sym (get_or_from_slice_get q.requests goes.0.named.number goes.0.named.request (record { index = 0; words = []; id = 0 }) goes.0.named.found))
        ∙ ap (λ (n : ℕ). (request_of q n).id) number_is

    completion_is : completion_of cqe a.id ≡ u.completion
    completion_is =
        ap (λ (x : Cqe). completion_of x a.id) looked.spells.words
        ∙ given_is u.completion.qp (index_of (l.queues (Send u.completion.qp)) (u.number - 1)) a.id
        ∙ ap (λ (i : ℕ). nop_completion u.completion.qp i 0) (id_is ∙ ap (λ (i : ℕ). (request_of (l.queues (Send i)) (u.number - 1)).id) (sym same))
        ∙ sym looked.spells.told

    abbrev found_turn : ℕ → Completion → PollStep
    found_turn end completion = with_end cq (views d cq (rs_then Count)) most (record { items = es }) seen (record { queue = queue; end = end }) completion

    turn_is : turn_by Count ≡ found_turn u.number u.completion
    turn_is =
        ap (λ (o : Option Asked). after_lookup cq (views d cq (rs_then Count)) most (record { items = es }) seen cqe queue (retirer_step (is_found (count_says_for o e)))) is_asked
        ∙ ap (λ (n : ℕ). found_turn n (completion_of cqe a.id)) end_is
        ∙ ap (found_turn u.number) completion_is

    found : ComesBy Count
    found = subst (λ (turn : PollStep). Comes (record { host = c; seen = seen; retirers = rs_then Count; state = turn.state }) turn) (sym turn_is)
        (on_found d m around cq most l v c seen rs es cqe queue given now e qp place is_here u looked.next_is same (end_after e) end_is (serve_there d m around cq most l v side given now e qp place Count may) goes.1)

  by_asked : (asked : Option Asked) → mine.asked ≡ asked → (mark : WqMark) → mark ≡ lookup_mark cqe.counter (found_before mine) asked → MayServe (send_of d qp) mine mark e → ComesBy mark
  by_asked None is mark mark_is may =
      subst ComesBy (sym mark_is) (named d m around cq most l v c seen rs es cqe queue given now e qp place is_here u same looked.spells later (subst (λ (x : WqMark). MayServe (send_of d qp) mine x e) mark_is may) tells)
  by_asked (Some a) is mark mark_is may = subst ComesBy (sym mark_is) (found a is (subst (λ (x : WqMark). MayServe (send_of d qp) mine x e) mark_is may))

  pub looks_up : (mark : WqMark) → MayLookUp (poll_place d cq) side cqe queue (place_in d cq qp) mark e
      → Comes (after_poll_side (poll_place d cq) side (OnQueue (place_in d cq qp) mark) e) (poll_side_step (poll_place d cq) side (OnQueue (place_in d cq qp) mark) e)
  looks_up mark may =
      let view_is = served_is d m around cq most l v side given now e qp place queue mark may.serves is_here in
      let serves : MayServe (send_of d qp) mine mark e = subst (λ (x : SendView). MayServe x.place x.side mark e) view_is may.serves.serves in
      turns_by d m around cq most l v side given now e qp place mark Comes
      (by_asked mine.asked refl mark (may.mark_is ∙ ap (λ (x : SendView). lookup_in cqe.counter x.side) view_is) serves)
