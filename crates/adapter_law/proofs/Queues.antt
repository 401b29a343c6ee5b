-- What a poll has given and looks up, where its queue gains completions at its end.
use Rattle.std.proofs.Common.{◌≡◌, ℕ, zero, suc, ◌≤◌, List, [], ◌∷◌, ◌++◌, length, map, take, slice_get, is_some, Some, sym, ◌∙◌, ap, subst, arith}
use Rattle.std.proofs.lemmas.Bool.{false≢true}
use Rattle.std.proofs.lemmas.List.{take-append-le, length-take}
use Rattle.verbs_types.specs.declared.completion.Completion.{Completion}
use Rattle.verbs_types.specs.declared.completion.Queue.{Queue}
use Rattle.verbs_types.specs.declared.declaration.Lines.{Lines}
use Rattle.verbs_types.specs.declared.state.Unpolled.{Unpolled}
use Rattle.cqe_format.specs.declared.completion.Cqe.{Cqe}
use Rattle.counted_ring.specs.Retirer.{Retirer}
use Rattle.counted_ring.specs.Queue as counted
use Rattle.provider_poll.specs.declared.state.End.{End}
use Rattle.provider_poll.specs.declared.state.PollState.{PollState}
use Rattle.provider_poll.specs.declared.state.PollState.TheVariants as states
use Rattle.actor_rules.specs.Completions.{IsGiven, IsEnd, IsLookedUpIn, PollIn, completion_in}
use Rattle.actor_rules.specs.Matching.{Match}
use Rattle.actor_rules.proofs.Matching.{match_length}

get_more : {X : Type 0} (xs ys : List X) (k : ℕ) (x : X) → slice_get xs k ≡ Some x → slice_get (xs ++ ys) k ≡ Some x
get_more [] ys zero x h = absurd (false≢true (ap is_some h))
get_more [] ys (suc k) x h = absurd (false≢true (ap is_some h))
get_more (y ∷ xs) ys zero x h = h
get_more (y ∷ xs) ys (suc k) x h = get_more xs ys k x h

-- what a poll has given and looks up stands where the queue gains at its end
module _ (d : Lines) (cq : ℕ) (retirers : List Retirer) where
  given_front : (completions : List Completion) (found : List End) (us more : List Unpolled) → IsGiven d cq retirers completions found us → IsGiven d cq retirers completions found (us ++ more)
  given_front completions found us more h =
      let few : length found ≤ length us = omega (arith, match_length (IsEnd d cq retirers) found (take (length found) us) h.ends, length-take (length found) us) in
      let same : take (length found) (us ++ more) ≡ take (length found) us = take-append-le (length found) us more few in record {
        ends = subst (λ (xs : List Unpolled). Match (IsEnd d cq retirers) found xs) (sym same) h.ends;
        given = h.given ∙ ap (λ (xs : List Unpolled). map completion_in xs) (sym same);
      }

  looked_up : (words_of : Queue → counted.Queue) (c : Cqe) (queue k : ℕ) (us more : List Unpolled) → IsLookedUpIn d cq words_of c queue (slice_get us k) → IsLookedUpIn d cq words_of c queue (slice_get (us ++ more) k)
  looked_up words_of c queue k us more h = record { unpolled = h.unpolled; next_is = get_more us more k h.unpolled h.next_is; spells = h.spells; queue_is = h.queue_is }

  pub poll_front : (words_of : Queue → counted.Queue) (given : List Completion) (us more : List Unpolled) (state : PollState) → PollIn d cq words_of retirers given us state → PollIn d cq words_of retirers given (us ++ more) state
  poll_front words_of given us more states.Idle h = tt
  poll_front words_of given us more (states.Polling most ends) h = (given_front given ends.items us more h.0, h.1, h.2)
  poll_front words_of given us more (states.LookingUp most ends c queue) h = (given_front given ends.items us more h.0, h.1, h.2, looked_up words_of c queue (length ends.items) us more h.3)
  poll_front words_of given us more (states.Retiring taken empty left) h = h
  poll_front words_of given us more (states.Acking taken empty) h = h
