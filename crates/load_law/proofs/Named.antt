-- The first load of a lookup by a poll: that of the id.
use Rattle.std.proofs.Common.{◌≡◌, ℕ, refl, sym, ap, arith, ◌<◌, ◌≤◌, ◌-◌, ◌^◌, Bool, true, if◌then◌else◌, nat_lt, List, Some}
use Rattle.std.proofs.lemmas.Bool.{lt-ltb}
use Rattle.bus_core.specs.declared.operation.BusEntry.{BusEntry}
use Rattle.bus_core.specs.Operation.{loaded}
use Rattle.bus_core.specs.Trace.{Memory, after_entry, Tells}
use Rattle.verbs_types.specs.declared.completion.Completion.{Completion}
use Rattle.verbs_types.specs.declared.completion.Queue.TheVariants.{Send}
use Rattle.verbs_types.specs.declared.declaration.Lines.{Lines}
use Rattle.verbs_types.specs.declared.state.Unpolled.{Unpolled}
use Rattle.verbs_rules.specs.State.{Verbs}
use Rattle.owner_ring.specs.Consumer.{Consumer}
use Rattle.cqe_format.specs.declared.completion.Cqe.{Cqe}
use Rattle.counted_ring.specs.Mark.{WqMark, Lookup}
use Rattle.counted_ring.specs.Retirer.{Retirer}
use Rattle.counted_ring.specs.RetirerView.{MayServe}
use Rattle.object_places.specs.Places.{send_of}
use Rattle.provider_poll.specs.declared.state.End.{End}
use Rattle.provider_poll.specs.declared.state.PollState.TheVariants as states
use Rattle.provider_poll.specs.declared.poll_step.PollStep.{PollStep}
use Rattle.provider_poll.specs.Rule.{PollRule, found_before}
use Rattle.actor_rules.specs.Polling.{place_in, given_with, load_says}
use Rattle.actor_rules.specs.View.{View}
use Rattle.actor_rules.proofs.Matching.{match_weaken}
use Rattle.actor_rules.specs.Objects.{Lists, retirer_in}
use Rattle.actor_rules.specs.Completions.{CompletionsStand, IsCompletion, IsEnd, AskedFor, HasPlace}
use Rattle.actor_rules.proofs.PollPlaces.{living_by_place}
use Rattle.poll_outcomes.proofs.Same.{requests_refl}
use Rattle.poll_outcomes.specs.Now.{PollNow}
use Rattle.poll_outcomes.specs.Outcome.{Outcome, GoesOn}
use Rattle.poll_outcomes.proofs.Moves.{queue_moves}
use Rattle.load_law.proofs.Loads.{nothing_kept}
use Rattle.poll_outcomes.proofs.Ready.{finds_now}
use Rattle.poll_outcomes.proofs.Served.{retirers_then, turn_then, serve_there, serve_goes, side_cases, sides_long, request_taken}

module _ (d : Lines) (m : Memory) (around : View) (cq most : ℕ) (l : Lists) (v : Verbs) (c : Consumer) (seen : ℕ) (rs : List Retirer) (es : List End) (cqe : Cqe) (queue : ℕ) (given : List Completion)
    (now : PollNow d m around cq most l v (record { host = c; seen = seen; retirers = rs; state = states.LookingUp most (record { items = es }) cqe queue }) given) (e : BusEntry)
    (qp : ℕ) (place : HasPlace d cq qp) (is_here : place_in d cq qp ≡ queue) where
  abbrev side : PollRule
  side = record { host = c; seen = seen; retirers = rs; state = states.LookingUp most (record { items = es }) cqe queue }

  abbrev mine : Retirer
  mine = retirer_in rs (place_in d cq qp)

  -- the end from which the lookup goes on is the last that was found
  from_found : found_before mine ≡ mine.found
  from_found =
      let f = finds_now d m around cq most l v side given now qp place in
      let low : nat_lt mine.found (2 ^ 62) ≡ true = lt-ltb mine.found (2 ^ 62) (omega (arith, f.found, f.low)) in
      ap (λ (b : Bool). if b then mine.found else mine.tail) low

  abbrev mark : WqMark
  mark = Lookup cqe.counter (found_before mine)

  abbrev asking : Retirer
  asking = record { tail = mine.tail; found = found_before mine; asked = Some (record { counter = cqe.counter; id = loaded e }) }

  abbrev rs' : List Retirer
  rs' = retirers_then d m around cq most l v side given now e qp place mark

  ends_kept : (x : End) (u : Unpolled) → IsEnd d cq rs x u → IsEnd d cq rs' x u
  ends_kept x u is =
      let more : (i : ℕ) → (retirer_in rs i).found ≤ (retirer_in rs' i).found = side_cases d m around cq most l v side given now e qp place asking (λ i r. (retirer_in rs i).found ≤ r.found) (omega (arith, from_found)) (λ i apart. omega arith) in
      record { queue = is.queue; end = is.end; found = omega (arith, is.found, more x.queue) }

  stands_then : CompletionsStand d l (record { host = c; seen = seen; retirers = rs'; state = states.LookingUp most (record { items = es }) cqe queue }) given v cq
  stands_then =
      let s = now.stands in record {
        counts = s.counts;
        from = s.from;
        from_is = s.from_is;
        low = s.low;
        unpolled = s.unpolled;
        reads = s.reads;
        shows = s.shows;
        poll = (record { ends = match_weaken (IsEnd d cq rs) (IsEnd d cq rs') ends_kept es _ s.poll.0.ends; given = s.poll.0.given }, s.poll.1, s.poll.2, s.poll.3);
        retirers = sides_long d m around cq most l v side given now e qp place asking;
        asked = side_cases d m around cq most l v side given now e qp place asking (λ i r. AskedFor (states.LookingUp most (record { items = es }) cqe queue) i r.asked) (sym is_here, refl) (λ i apart. s.asked i);
        ends = s.ends;
      }

  abbrev turn : PollStep
  turn = turn_then d m around cq most l v side given now e qp place mark

  pub named : (u : Unpolled) → u.completion.qp ≡ qp → IsCompletion l cqe u → (l.queues (Send u.completion.qp)).retired < u.number → MayServe (send_of d qp) mine mark e → Tells m e
      → Outcome d (after_entry m e) around cq most l v side given (record { host = c; seen = seen; retirers = rs'; state = turn.state }) turn.answer (load_says cq most (given_with given turn.answer) turn.state)
  named u same is later may tells =
      let goes = serve_goes d m around cq most l v side given now e qp place mark may tells (u.number - 1, request_taken d m around cq most l v side given now e qp place cqe u cqe.counter same is later refl) in
      GoesOn (record {
        goes_on = tt;
        silent = refl;
        polls = now.polls;
        before = refl;
        loads = refl;
        moved = queue_moves d m around cq most l v side given now e (record { host = c; seen = seen; retirers = rs'; state = states.LookingUp most (record { items = es }) cqe queue }) given v qp place asking (l.queues (Send qp)) (record {
          inside = serve_there d m around cq most l v side given now e qp place mark may;
          tied = goes.1;
          host = refl;
          retirers = refl;
          requests_same = requests_refl (l.queues (Send qp));
          verbs = nothing_kept d cq v;
          retired = now.retired (Send qp) (living_by_place d cq qp place).0;
          retired_others = λ other apart. refl;
          stands = stands_then;
        });
      })
