-- The store of the consumer index by a poll.
use Rattle.std.proofs.Common.{◌≡◌, ℕ, refl, sym, ap, ◌∙◌, subst, arith, ◌≤◌, ◌+◌, ◌-◌, List, [], length, Option, None, Some}
use Rattle.std.proofs.lemmas.List.{length-drop}
use Rattle.bus_core.specs.declared.operation.BusEntry.{BusEntry}
use Rattle.bus_core.specs.Trace.{Memory, after_entry, Tells}
use Rattle.verbs_types.specs.declared.completion.Completion.{Completion}
use Rattle.verbs_types.specs.declared.declaration.Lines.{Lines}
use Rattle.verbs_types.specs.declared.entry.What.TheVariants.{Ack}
use Rattle.verbs_types.specs.declared.state.Unpolled.{Unpolled}
use Rattle.verbs_rules.specs.State.{Verbs}
use Rattle.verbs_rules.specs.OfOne.{completions_in}
use Rattle.verbs_rules.specs.Step.{after}
use Rattle.owner_ring.specs.Place.{size}
use Rattle.owner_ring.specs.Consumer.{Consumer, next_index}
use Rattle.owner_ring.proofs.Tied as ring_tied
use Rattle.cqe_format.specs.declared.completion.Cqe.{Cqe}
use Rattle.cq_pair.specs.Place.{ring_of}
use Rattle.cq_pair.specs.Mark.{QueueMark, Acknowledge}
use Rattle.cq_pair.specs.Queue.{PlainQueue, Acked, produced, since}
use Rattle.cq_pair.specs.Queue as plain
use Rattle.cq_pair.specs.Host.{MayPoll}
use Rattle.cq_pair.proofs.Tied as completions
use Rattle.cq_pair.proofs.HostStep as host
use Rattle.cq_pair.proofs.Rows.{reads_as_history}
use Rattle.cq_pair.proofs.Says.{poll_inside}
use Rattle.counted_ring.specs.Retirer.{Asked, Retirer}
use Rattle.object_places.specs.Objects.{OnCompletions}
use Rattle.object_places.specs.Places.{completions_of}
use Rattle.provider_poll.specs.declared.state.PollState.TheVariants as states
use Rattle.provider_poll.specs.Rule.{PollRule, OnHost, MayAcknowledge}
use Rattle.provider_poll.specs.RuleStep.{poll_side_step, after_poll_side}
use Rattle.provider_poll.specs.Fresh.{poll_place}
use Rattle.actor_rules.specs.Polling.{store_says}
use Rattle.actor_rules.specs.View.{View}
use Rattle.actor_rules.specs.Matching.{Match}
use Rattle.actor_rules.proofs.Matching.{match_length}
use Rattle.actor_rules.specs.Objects.{Lists, retirer_in}
use Rattle.actor_rules.specs.Completions.{CompletionsIn, ends_in, IsCompletion, AskedFor}
use Rattle.actor_rules.proofs.Threading.{put_here, put_there}
use Rattle.poll_outcomes.specs.Now.{PollNow}
use Rattle.poll_outcomes.specs.Outcome.{Outcome, Ends}
use Rattle.poll_outcomes.proofs.Moves.{VerbsKept, host_moves}

idle_acking : (taken : ℕ) (empty : Option ℕ) (place : ℕ) (asked : Option Asked) → AskedFor (states.Acking taken empty) place asked → AskedFor states.Idle place asked
idle_acking taken empty place None h = tt
idle_acking taken empty place (Some a) h = absurd h

module _ (d : Lines) (m : Memory) (around : View) (cq most : ℕ) (l : Lists) (v : Verbs) (c : Consumer) (seen : ℕ) (rs : List Retirer) (taken : ℕ) (empty : Option ℕ) (given : List Completion)
    (now : PollNow d m around cq most l v (record { host = c; seen = seen; retirers = rs; state = states.Acking taken empty }) given) (e : BusEntry) (tells : Tells m e) where
  abbrev side : PollRule
  side = record { host = c; seen = seen; retirers = rs; state = states.Acking taken empty }

  abbrev q : PlainQueue
  q = l.completions cq

  abbrev us : List Unpolled
  us = v.unpolled cq

  abbrev index : ℕ
  index = next_index c

  abbrev mark : QueueMark
  mark = Acknowledge index

  abbrev q' : PlainQueue
  q' = plain.after_event q (Acked index)

  -- the index of the oldest completion that no poll took
  abbrev oldest : ℕ
  oldest = v.device.produced cq - length us

  -- the state after the entry
  abbrev v' : Verbs
  v' = after v (Ack cq oldest)

  from_is : now.stands.from ≡ index
  from_is = let same : now.stands.from ≡ now.stands.from + 0 = omega arith in same ∙ now.stands.from_is

  within : index ≤ produced q
  within = omega (arith, (ring_tied.known now.host.entries c now.host.ring.consumer).next_in, completions.same_produced now.host.entries (around.devices cq) c q now.host.fits)

  oldest_is : index ≡ oldest
  oldest_is =
      let words = match_length (IsCompletion l) (since q now.stands.from) us now.stands.unpolled in
      let counted = (reads_as_history (size (ring_of (completions_of d cq))) q).counted now.stands.from now.stands.low (omega (arith, from_is, within)) in
      omega (arith, words, counted, now.stands.counts.produced, from_is)

  ack_keeps : VerbsKept d cq v v'
  ack_keeps = record {
    same = record { limits = refl; posted = refl; device = refl };
    others = λ k apart i. record (completions_in v k) { acked = put_there v.acked cq oldest k apart i };
    ends = λ qp lives away. refl;
  }

  completions_now : completions_in v' cq ≡ record (completions_in v cq) { acked = oldest }
  completions_now = λ i. record (completions_in v cq) { acked = put_here v.acked cq oldest i }

  module _ (may : MayPoll (completions_of d cq) c mark e) where
    abbrev now_is : PollRule
    now_is = after_poll_side (poll_place d cq) side (OnHost mark) e

    goes : completions.Goes (completions_of d cq) (after_entry m e) (around.devices cq) now_is.host q (Some (Acked index))
    goes = host.host_step (completions_of d cq) m (around.devices cq) c q mark e now.fine now.host tells may

    stands_then : CompletionsIn d cq l.queues q' now_is [] (completions_in v' cq) (ends_in v')
    stands_then =
        let s = now.stands in
        let low : q.acked ≤ index = omega (arith, s.low, from_is) in
        let unpolled_is : since q' s.from ≡ since q s.from = (reads_as_history (size (ring_of (completions_of d cq))) q).acked index s.from goes.0 (omega (arith, from_is)) in
        let same_count : produced q ≡ produced q' = omega (arith, length-drop (index - q.acked) q.completions, low, within) in
        coe 1 0 (i. CompletionsIn d cq l.queues q' now_is [] (completions_now i) (ends_in v')) (record {
          counts = record { acked = sym oldest_is; produced = s.counts.produced ∙ same_count; size = s.counts.size; runs = s.counts.runs };
          from = s.from;
          from_is = s.from_is;
          low = omega (arith, from_is);
          unpolled = subst (λ (cs : List Cqe). Match (IsCompletion l) cs us) (sym unpolled_is) s.unpolled;
          reads = tt;
          shows = record { least = omega (arith, s.shows.least, same_count); enough = λ holds. absurd (omega (arith, holds)); reading = tt };
          poll = tt;
          retirers = s.retirers;
          asked = λ place. idle_acking taken empty place (retirer_in rs place).asked (s.asked place);
          ends = s.ends;
        })

    ends_call : Outcome d (after_entry m e) around cq most l v side given now_is (poll_side_step (poll_place d cq) side (OnHost mark) e).answer (Some (Ack cq index))
    ends_call = Ends (record {
      taken = taken;
      word = empty;
      some = now.stands.poll;
      over = refl;
      says = ap (λ (n : ℕ). Some (Ack cq n)) oldest_is;
      before = refl;
      idle = refl;
      owed = refl;
      moved = host_moves d m around cq most l v side given now e now_is [] v' q' (record {
        inside = poll_inside (completions_of d cq) m (around.devices cq) c q mark e now.host may;
        tied = goes.1;
        retirers = refl;
        verbs = ack_keeps;
        retired = λ queue. refl;
        stands = stands_then;
      });
    })

  pub acknowledges : (sent : QueueMark) → MayAcknowledge (poll_place d cq) side sent e
      → Outcome d (after_entry m e) around cq most l v side given (after_poll_side (poll_place d cq) side (OnHost sent) e) (poll_side_step (poll_place d cq) side (OnHost sent) e).answer (store_says (OnCompletions cq sent))
  acknowledges sent may =
      subst (λ (k : QueueMark). Outcome d (after_entry m e) around cq most l v side given (after_poll_side (poll_place d cq) side (OnHost k) e) (poll_side_step (poll_place d cq) side (OnHost k) e).answer (store_says (OnCompletions cq k)))
      (sym may.index) (ends_call (subst (λ (k : QueueMark). MayPoll (completions_of d cq) c k e) may.index may.polls))
