-- What an operation of a poll leaves of it, and its note, as the rule of threads has them.
use Rattle.std.proofs.Common.{◌≡◌, ◌≢◌, ◌⊎◌, inl, inr, ℕ, zero, suc, ◌+◌, ◌-◌, ◌≤◌, ◌<◌, ◌==◌, ◌++◌, nat_lt, arith, refl, sym, ap, ◌∙◌, subst, true, false, Bool, if◌then◌else◌, List, [], ◌∷◌, length, slice_get, Option, None, Some, is_some}
use Rattle.std.proofs.lemmas.Bool.{cases_Bool, false≢true}
use Rattle.std.proofs.lemmas.Bool.Decides.{nat_tests}
use Rattle.arrayvec.specs.ArrayVec.{ArrayVec, array_vec_len}
use Rattle.bus_core.specs.declared.operation.BusEntry.{BusEntry}
use Rattle.bus_core.specs.declared.turn.Note.{Note}
use Rattle.bus_core.specs.declared.turn.Step.{Step}
use Rattle.bus_core.specs.declared.turn.Step.TheVariants.{More, Gave, Done}
use Rattle.verbs_types.specs.declared.completion.Completion.{Completion}
use Rattle.verbs_types.specs.declared.completion.Queue.TheVariants.{Send}
use Rattle.verbs_types.specs.declared.entry.What.{What}
use Rattle.verbs_types.specs.declared.entry.What.TheVariants.{Poll, Retire, Ack}
use Rattle.cqe_format.specs.declared.completion.Cqe.{Cqe}
use Rattle.cq_pair.specs.declared.host.CqDone.{CqDone}
use Rattle.cq_pair.specs.declared.host.CqDone.TheVariants.{Took, Empty, Acked}
use Rattle.counted_ring.specs.declared.retirer.Retired.{Retired}
use Rattle.counted_ring.specs.declared.retirer.Retired.TheVariants.{Found, Tail}
use Rattle.provider_poll.specs.declared.answer.PollAnswer.{PollAnswer}
use Rattle.provider_poll.specs.declared.answer.PollAnswer.TheVariants.{Polled}
use Rattle.provider_poll.specs.declared.state.End.{End}
use Rattle.provider_poll.specs.declared.state.PollState.{PollState}
use Rattle.provider_poll.specs.declared.state.PollState.TheVariants as states
use Rattle.provider_poll.specs.declared.poll_step.PollStep.{PollStep}
use Rattle.provider_poll.specs.Completion.{completion_of}
use Rattle.provider_poll.specs.Note.{poll_note}
use Rattle.provider_poll.specs.SendQueue.{SendView}
use Rattle.provider_poll.specs.Stores.{may_store, from_ready, storing, storing_first}
use Rattle.provider_poll.specs.PollStep.{place_of, with_end, with_none, with_completion, after_look, after_lookup, after_retire, after_ack}
use Rattle.actor_rules.specs.Polling.{given_with, given_after, is_loading, load_says, took_some}
use Rattle.thread_actor.specs.Polls.{taken_by, note_at}
use Rattle.thread_actor.specs.Stands.{IsTaking, IsPolling}
use Rattle.thread_actor.specs.Turn.{IsNoteOf}

-- by what the operation says, what is left of a poll of at most so many that had given these
pub record Leaves (most : ℕ) (given : List Completion) (said : Option What) (seen_is : ℕ) (turned : PollStep) : Type 0 where
  pub noted : IsNoteOf said seen_is turned.noted
  pub in_drain : IsNoteOf (took_some said) seen_is (note_at (taken_by turned.answer) turned.noted)
  pub goes_on : taken_by turned.answer ≡ None → IsPolling most (given_after given turned.answer) turned.state
  pub over : (taken : ℕ) → taken_by turned.answer ≡ Some taken → turned.state ≡ states.Idle

-- a poll that stores has taken some
stores_first : (most : ℕ) (given : List Completion) (taken : ℕ) (empty : Option ℕ) (ends : List End) → 0 < taken → IsPolling most given (storing_first taken empty ends)
stores_first most given taken empty [] some = some
stores_first most given taken empty (x ∷ xs) some = some

pub stores : (most : ℕ) (given : List Completion) (queues : List SendView) (taken : ℕ) (empty : Option ℕ) (ends : List End) → 0 < taken → IsPolling most given (storing queues taken empty ends)
stores most given queues taken empty ends some = stores_first most given taken empty (from_ready queues ends) some

not_loading_first : (taken : ℕ) (empty : Option ℕ) (ends : List End) → is_loading (storing_first taken empty ends) ≡ false
not_loading_first taken empty [] = refl
not_loading_first taken empty (x ∷ xs) = refl

not_loading : (queues : List SendView) (taken : ℕ) (empty : Option ℕ) (ends : List End) → is_loading (storing queues taken empty ends) ≡ false
not_loading queues taken empty ends = not_loading_first taken empty (from_ready queues ends)

push_length : {X : Type 0} (xs : List X) (x : X) → length (xs ++ x ∷ []) ≡ length xs + 1
push_length [] x = refl
push_length (y ∷ xs) x = let e : suc (length xs + 1) ≡ suc (length xs) + 1 = omega arith in ap suc (push_length xs x) ∙ e

module _ (cq most : ℕ) (given : List Completion) where
  -- a list that has an item is told in a drain too
  keeps_some : (xs : List Completion) → 0 < length xs → took_some (Some (Poll cq most xs)) ≡ Some (Poll cq most xs)
  keeps_some [] some = absurd (omega (arith, some))
  keeps_some (x ∷ xs) some = refl

  none_given : (xs : List Completion) → length xs ≡ 0 → xs ≡ []
  none_given [] is = refl
  none_given (x ∷ xs) is = absurd (omega (arith, is))

  -- the poll's loads go on
  loads : (seen : ℕ) (state : PollState) → is_loading state ≡ true → IsPolling most given state → Leaves most given (load_says cq most (given_with given More) state) seen (record { state = state; answer = More; noted = None })
  loads seen state loading polling = record {
    noted = rw loading refl;
    in_drain = rw loading refl;
    goes_on = λ none. polling;
    over = λ taken is. absurd (false≢true (ap is_some is));
  }

  module _ (queues : List SendView) (asked : ℕ) (ends : ArrayVec End) (seen : ℕ) (taking : IsTaking most given asked ends) where
    -- one more was taken, and there are as many as were asked for
    full : (end : End) (c : Completion) → Leaves most given (load_says cq most (given ++ c ∷ []) (storing queues (array_vec_len ends + 1) None (ends.items ++ end ∷ []))) seen
        (record { state = storing queues (array_vec_len ends + 1) None (ends.items ++ end ∷ []); answer = Gave c; noted = Some (poll_note cq asked (array_vec_len ends + 1) seen) })
    full end c = record {
      noted = rw (not_loading queues (array_vec_len ends + 1) None (ends.items ++ end ∷ [])) note_is;
      in_drain = rw (not_loading queues (array_vec_len ends + 1) None (ends.items ++ end ∷ [])) (rw (keeps_some (given ++ c ∷ []) more_given) note_is);
      goes_on = λ none. stores most (given ++ c ∷ []) queues (array_vec_len ends + 1) None (ends.items ++ end ∷ []) (omega arith);
      over = λ taken is. absurd (false≢true (ap is_some is));
    } where
      more_given : 0 < length (given ++ c ∷ [])
      more_given = omega (arith, push_length given c)

      note_is : Some (poll_note cq asked (array_vec_len ends + 1) seen) ≡ Some (poll_note cq most (length (given ++ c ∷ [])) seen)
      note_is = λ i. Some (poll_note cq (taking.asked_is i) (sym (push_length given c ∙ ap (λ (n : ℕ). n + 1) taking.given_each) i) seen)

    one_more : (end : End) (c : Completion) → nat_lt (array_vec_len ends + 1) asked ≡ true → Leaves most given (load_says cq most (given ++ c ∷ []) (states.Polling asked (record { items = ends.items ++ end ∷ [] }))) seen
        (record { state = states.Polling asked (record { items = ends.items ++ end ∷ [] }); answer = Gave c; noted = None })
    one_more end c more = record {
      noted = refl;
      in_drain = refl;
      goes_on = λ none. record {
        asked_is = taking.asked_is;
        given_each = push_length given c ∙ (ap (λ (n : ℕ). n + 1) taking.given_each ∙ sym (push_length ends.items end));
        more = let low : array_vec_len ends + 1 < asked = grind (arith, more) in omega (arith, low, taking.asked_is, push_length ends.items end);
      };
      over = λ taken is. absurd (false≢true (ap is_some is));
    }

    pub takes : (end : End) (c : Completion) → Leaves most given (load_says cq most (given_with given (with_end cq queues asked ends seen end c).answer) (with_end cq queues asked ends seen end c).state) seen (with_end cq queues asked ends seen end c)
    takes end c = elim (cases_Bool (nat_lt (array_vec_len ends + 1) asked)) [
      | inl more ↦ rw more (one_more end c more)
      | inr all ↦ rw all (full end c)
    ]

    pub finds_none : (word : ℕ) → Leaves most given (load_says cq most (given_with given (with_none cq queues asked ends seen word).answer) (with_none cq queues asked ends seen word).state) seen (with_none cq queues asked ends seen word)
    finds_none word = elim (cases_Bool (array_vec_len ends == 0)) [
      | inl none ↦ rw none (record {
        noted = at_none none;
        in_drain = subst (λ (xs : List Completion). IsNoteOf (took_some (Some (Poll cq most xs))) seen None) (sym (given_none none)) refl;
        goes_on = λ is. absurd (false≢true (sym (ap is_some is)));
        over = λ taken is. refl;
      })
      | inr some ↦ rw some (record {
        noted = rw (not_loading queues (array_vec_len ends) (Some word) ends.items) at_some;
        in_drain = rw (not_loading queues (array_vec_len ends) (Some word) ends.items) (rw (keeps_some given (given_some some)) at_some);
        goes_on = λ none. stores most given queues (array_vec_len ends) (Some word) ends.items (ends_some some);
        over = λ taken is. absurd (false≢true (ap is_some is));
      })
    ] where
      ends_none : (array_vec_len ends == 0) ≡ true → array_vec_len ends ≡ 0
      ends_none none = grind (arith, none)

      ends_some : (array_vec_len ends == 0) ≡ false → 0 < array_vec_len ends
      ends_some some = grind (arith, some)

      given_some : (array_vec_len ends == 0) ≡ false → 0 < length given
      given_some some = let more = ends_some some in omega (arith, more, taking.given_each)

      given_none : (array_vec_len ends == 0) ≡ true → given ≡ []
      given_none none = none_given given (taking.given_each ∙ ends_none none)

      at_none : (array_vec_len ends == 0) ≡ true → Some (poll_note cq asked 0 seen) ≡ Some (poll_note cq most (length given) seen)
      at_none none = λ i. Some (poll_note cq (taking.asked_is i) (sym (taking.given_each ∙ ends_none none) i) seen)

      at_some : Some (poll_note cq asked (array_vec_len ends) seen) ≡ Some (poll_note cq most (length given) seen)
      at_some = λ i. Some (poll_note cq (taking.asked_is i) (sym taking.given_each i) seen)

    -- any operation of the host's in a poll
    pub looks : (step : Step (Unit {0}) CqDone) → Leaves most given (load_says cq most (given_with given (after_look cq queues asked ends seen step).answer) (after_look cq queues asked ends seen step).state) seen (after_look cq queues asked ends seen step)
    looks (Done (Took c)) = at_place (place_of queues c) where
      at_place : (o : Option ℕ) → Leaves most given (load_says cq most (given_with given (with_completion cq queues asked ends seen c o).answer) (with_completion cq queues asked ends seen c o).state) seen (with_completion cq queues asked ends seen c o)
      at_place (Some queue) = loads seen (states.LookingUp asked ends c queue) refl taking
      at_place None = takes (record { queue = 0; end = 0 }) (completion_of c 0)
    looks (Done (Empty index word)) = finds_none word
    looks (Done (Acked ci)) = loads seen (states.Polling asked ends) refl taking
    looks More = loads seen (states.Polling asked ends) refl taking
    looks (Gave part) = loads seen (states.Polling asked ends) refl taking

    -- any operation of a lookup
    pub looks_up : (c : Cqe) (queue : ℕ) (step : Step (Unit {0}) Retired) → Leaves most given (load_says cq most (given_with given (after_lookup cq queues asked ends seen c queue step).answer) (after_lookup cq queues asked ends seen c queue step).state) seen (after_lookup cq queues asked ends seen c queue step)
    looks_up c queue (Done (Found id end)) = takes (record { queue = queue; end = end }) (completion_of c id)
    looks_up c queue (Done (Tail end)) = loads seen (states.LookingUp asked ends c queue) refl taking
    looks_up c queue More = loads seen (states.LookingUp asked ends c queue) refl taking
    looks_up c queue (Gave part) = loads seen (states.LookingUp asked ends c queue) refl taking

  pub retires : (seen : ℕ) (queues : List SendView) (taken : ℕ) (empty : Option ℕ) (left : List End) (qp end : ℕ) → 0 < taken → Leaves most given (Some (Retire (Send qp) end)) seen (after_retire queues taken empty left qp end)
  retires seen queues taken empty left qp end some = record {
    noted = refl;
    in_drain = refl;
    goes_on = λ none. stores most given queues taken empty left some;
    over = λ taken' is. absurd (false≢true (ap is_some is));
  }

  pub acknowledges : (seen taken : ℕ) (empty : Option ℕ) (index : ℕ) → 0 < taken → Leaves most given (Some (Ack cq index)) seen (after_ack cq taken empty index)
  acknowledges seen taken empty index some = record {
    noted = refl;
    in_drain = let more : (taken == 0) ≡ false = grind (arith, some) in rw more refl;
    goes_on = λ is. absurd (false≢true (sym (ap is_some is)));
    over = λ taken' is. refl;
  }
