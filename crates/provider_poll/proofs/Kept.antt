-- What a side that polls keeps from turn to turn.
use Rattle.std.proofs.lemmas.Bool.Decides.{nat_tests}
use Rattle.std.proofs.Common.{◌≡◌, ℕ, zero, suc, ◌+◌, ◌≤◌, ◌<◌, ◌^◌, ◌++◌, ◌==◌, nat_lt, refl, sym, ap, subst, arith, Bool, true, false, List, [], ◌∷◌, length, length-append, position, Option, Some, None, unwrap_or, if◌then◌else◌, slice_get, slice_set}
use Rattle.std.specs.List.{position_or_len}
use Rattle.arrayvec.specs.ArrayVec.{ArrayVec, array_vec_len}
use Rattle.bus_core.specs.declared.operation.BusEntry.{BusEntry}
use Rattle.bus_core.specs.declared.turn.Step.{Step}
use Rattle.bus_core.specs.declared.turn.Step.TheVariants.{More, Gave, Done}
use Rattle.verbs_types.specs.declared.completion.Completion.{Completion}
use Rattle.owner_ring.specs.Consumer.{next_index}
use Rattle.cqe_format.specs.declared.completion.Cqe.{Cqe}
use Rattle.cq_pair.specs.declared.host.CqDone.{CqDone}
use Rattle.cq_pair.specs.declared.host.CqDone.TheVariants.{Took, Empty, Acked}
use Rattle.cq_pair.specs.HostView.{HostView, HostTurn, PollOne, Acknowledgement}
use Rattle.cq_pair.specs.Turn.{task_after}
use Rattle.counted_ring.specs.declared.retirer.Retired.{Retired}
use Rattle.counted_ring.specs.declared.retirer.Retired.TheVariants.{Found, Tail}
use Rattle.provider_poll.specs.declared.state.End.{End}
use Rattle.provider_poll.specs.declared.state.PollState.TheVariants.{Polling}
use Rattle.provider_poll.specs.declared.poll_step.PollStep.{PollStep}
use Rattle.provider_poll.specs.Completion.{is_of_request, completion_of}
use Rattle.provider_poll.specs.SendQueue.{SendView}
use Rattle.provider_poll.specs.Stores.{may_store, from_ready, storing, storing_first}
use Rattle.provider_poll.specs.PollStep.{place_of, place_of_number, with_end, with_none, with_completion, after_look, after_lookup}
use Rattle.provider_poll.specs.Turns.{LooksUp, Retires, InQueue, working, IsPollingHost}
use Rattle.provider_poll.specs.PollInside.{IsAtWork, IsLookingUp}
use Rattle.provider_poll.proofs.Hosts.{Fits, top_after}

-- what a test of numbers says
below : (m n : ℕ) → nat_lt m n ≡ true → m < n
below m n test = grind (arith, nat_tests)

position_within : (p : SendView → Bool) (qs : List SendView) (i : ℕ) → position p qs ≡ Some i → i < length qs
position_within p qs i h = cut (nat_lt (position_or_len p qs) (length qs)) refl h where
  cut : (b : Bool) → nat_lt (position_or_len p qs) (length qs) ≡ b → (if b then Some (position_or_len p qs) else None) ≡ Some i → i < length qs
  cut true test found = let same = ap (λ (o : Option ℕ). unwrap_or o 0) found in let less = below (position_or_len p qs) (length qs) test in omega (arith, less, same)
  cut false test found = absurd cc

place_within : (qs : List SendView) (c : Cqe) (i : ℕ) → place_of qs c ≡ Some i → i < length qs
place_within qs c i h = cut (is_of_request c) h where
  cut : (b : Bool) → (if b then place_of_number qs c.qpn else None) ≡ Some i → i < length qs
  cut true found = position_within (λ q. q.number == c.qpn) qs i found
  cut false found = absurd cc

module _ (h : HostView) (queues : List SendView) where
  -- before a store no entry is being read
  pub stores : (taken : ℕ) (empty : Option ℕ) (ends : List End) → h.task ≡ None → IsAtWork h queues (storing queues taken empty ends)
  stores taken empty [] idle = idle
  stores taken empty (x ∷ xs) idle = first (stores taken empty xs idle) (may_store queues x) refl where
    first : IsAtWork h queues (storing queues taken empty xs) → (b : Bool) → may_store queues x ≡ b → IsAtWork h queues (storing_first taken empty (if b then x ∷ xs else from_ready queues xs))
    first rest true ready = record { task = idle; some = omega arith; ready = ready }
    first rest false ready = rest

  either : (b : Bool) (s t : PollStep) → (b ≡ true → IsAtWork h queues s.state) → (b ≡ false → IsAtWork h queues t.state) → IsAtWork h queues (if b then s else t).state
  either true s t first second = first refl
  either false s t first second = second refl

  module _ (number max seen : ℕ) (ends : ArrayVec End) (few : max ≤ 16) (wants : array_vec_len ends < max) where
    pub ends_with : (end : End) (given : Completion) → h.task ≡ None → next_index h.side < 2 ^ 61 + array_vec_len ends + 1 → IsAtWork h queues (with_end number queues max ends seen end given).state
    ends_with end given idle next =
        let long = length-append ends.items (end ∷ []) in
        either (nat_lt (array_vec_len ends + 1) max) _ _ (λ test. record {
          task = subst IsPollingHost (sym idle) tt;
          next = omega (arith, next, long);
          more = (let less = below (array_vec_len ends + 1) max test in omega (arith, less, long));
          few = few;
        }) (λ test. stores (array_vec_len ends + 1) None (ends.items ++ end ∷ []) idle)

    finds_none : (word : ℕ) → h.task ≡ None → IsAtWork h queues (with_none number queues max ends seen word).state
    finds_none word idle = either (array_vec_len ends == 0) _ _ (λ test. idle) (λ test. stores (array_vec_len ends) (Some word) ends.items idle)

    completes : (c : Cqe) (place : Option ℕ) → place_of queues c ≡ place → h.task ≡ None → next_index h.side < 2 ^ 61 + array_vec_len ends + 1 → IsAtWork h queues (with_completion number queues max ends seen c place).state
    completes c (Some i) found idle next = record { task = idle; next = next; more = wants; few = few; inside = place_within queues c i found }
    completes c None found idle next = ends_with (record { queue = 0; end = 0 }) (completion_of c 0) idle next

    goes_on : h.task ≡ Some PollOne → next_index h.side < 2 ^ 61 + array_vec_len ends → IsAtWork h queues (Polling max ends)
    goes_on task next = record { task = subst IsPollingHost (sym task) tt; next = next; more = wants; few = few }

    -- after a look
    pub looks : (top : ℕ) (step : Step (Unit {0}) CqDone) → top < 2 ^ 61 + array_vec_len ends → Fits h.side (top_after top step) → h.task ≡ task_after (Some PollOne) step → IsAtWork h queues (after_look number queues max ends seen step).state
    looks top More bound fits task = goes_on task (omega (arith, bound, fits.next))
    looks top (Gave part) bound fits task = goes_on task (omega (arith, bound, fits.next))
    looks top (Done (Took c)) bound fits task = completes c (place_of queues c) refl task (omega (arith, bound, fits.next))
    looks top (Done (Empty index word)) bound fits task = finds_none word task
    looks top (Done (Acked ci)) bound fits task = record { task = subst IsPollingHost (sym task) tt; next = omega (arith, bound, fits.next); more = wants; few = few }

    -- after an operation of a lookup
    pub asks : (c : Cqe) (queue : ℕ) (step : Step (Unit {0}) Retired) → h.task ≡ None → next_index h.side < 2 ^ 61 + array_vec_len ends + 1 → queue < length queues → IsAtWork h queues (after_lookup number queues max ends seen c queue step).state
    asks c queue (Done (Found id end)) idle next inside = ends_with (record { queue = queue; end = end }) (completion_of c id) idle next
    asks c queue (Done (Tail end)) idle next inside = record { task = idle; next = next; more = wants; few = few; inside = inside }
    asks c queue More idle next inside = record { task = idle; next = next; more = wants; few = few; inside = inside }
    asks c queue (Gave part) idle next inside = record { task = idle; next = next; more = wants; few = few; inside = inside }

-- a place of a queue that moved is a place after it
within : (old new : List SendView) (queue : ℕ) (before after : SendView) → InQueue old new queue before after → queue < length new
within old new queue before after t = subst (λ (qs : List SendView). queue < length qs) (sym t.queues) (cut old queue t.found) where
  cut : (qs : List SendView) (i : ℕ) → slice_get qs i ≡ Some before → i < length (slice_set qs i after)
  cut [] i found = absurd cc
  cut (q ∷ qs) zero found = omega arith
  cut (q ∷ qs) (suc i) found = let inside = cut qs i found in omega (arith, inside)

-- after an operation on the words of a send queue
module _ (h : HostView) (old new : List SendView) (e : BusEntry) (turned : PollStep) where
  pub looked_up : (number seen max : ℕ) (ends : ArrayVec End) (c : Cqe) (queue : ℕ) (before : List SendView) → LooksUp number seen old new max ends c queue e turned → IsLookingUp h before max ends queue → IsAtWork h new turned.state
  looked_up number seen max ends c queue before t work = subst (λ (t : PollStep). IsAtWork h new t.state) (sym t.turned_is)
      (asks h new number max seen ends work.few work.more c queue t.step work.task work.next (within old new queue t.before t.after t.within))

  pub retired : (taken : ℕ) (empty : Option ℕ) (first : End) (left : List End) → Retires old new taken empty first left e turned → h.task ≡ None → IsAtWork h new turned.state
  retired taken empty first left t idle = subst (λ (t : PollStep). IsAtWork h new t.state) (sym t.turned_is) (stores h new taken empty left idle)

-- an acknowledgement ends with its operation
pub stored : (old new : HostView) (e : BusEntry) (step : Step (Unit {0}) CqDone) → HostTurn (working Acknowledgement old) new e step → new.task ≡ None
stored old new e More t = absurd (let says = t.says in cc)
stored old new e (Gave part) t = absurd (let says = t.says in cc)
stored old new e (Done answer) t = t.task
