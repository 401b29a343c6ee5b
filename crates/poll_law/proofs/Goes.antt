-- A thread's operation in a call that takes completions keeps what holds.
use Rattle.std.proofs.Common.{◌≡◌, ℕ, suc, inl, inr, refl, ap, subst, arith, ◌==◌, ◌<◌, Bool, false, if◌then◌else◌, List, [], ◌∷◌, length, option_map, Option, Some}
use Rattle.std.specs.List.{AllByRecursion}
use Rattle.bus_core.specs.declared.turn.Step.{Step}
use Rattle.bus_core.specs.declared.turn.Step.TheVariants.{More, Gave, Done}
use Rattle.bus_core.specs.Mark.{Marked}
use Rattle.bus_core.specs.Trace.{Memory, after_entry, Tells}
use Rattle.verbs_types.specs.declared.call.Call.{Call}
use Rattle.verbs_types.specs.declared.completion.Completion.{Completion}
use Rattle.verbs_types.specs.declared.declaration.Lines.{Lines}
use Rattle.verbs_types.specs.declared.entry.What.{What}
use Rattle.verbs_types.specs.declared.entry.What.TheVariants as entries
use Rattle.verbs_rules.specs.Running.{Running}
use Rattle.object_places.specs.Objects.{Mark}
use Rattle.provider_poll.specs.declared.answer.PollAnswer.{PollAnswer}
use Rattle.provider_poll.specs.Rule.{PollRule}
use Rattle.provider_poll.specs.RuleStep.{after_poll_side}
use Rattle.actor_rules.specs.Family.{put_number}
use Rattle.provider_poll.specs.Fresh.{poll_place}
use Rattle.actor_rules.specs.Thread.{Thread}
use Rattle.actor_rules.specs.Polling.{MayPoll, poll_now, poll_mark, polled, poll_says, took_some, given_after, drain_left, calls_after_poll, calls_after_drain}
use Rattle.actor_rules.specs.Calls.{after_call, call_says, call_sees, MayCall, MayIn, after_in, says_in, sees_in}
use Rattle.actor_rules.specs.Actors.{Actors, by, posted_with}
use Rattle.verbs_laws.proofs.Choices.{differs}
use Rattle.verbs_laws.proofs.GoesSettle.{polling_goes, draining_goes}
use Rattle.actor_rules.specs.Ready.{IsOwnCall}
use Rattle.actor_rules.specs.View.{view}
use Rattle.actor_rules.specs.Holding.{Holds, Goes, IsMapped, IsFirst}
use Rattle.poll_law.proofs.Dues.{Job, poll_job, drain_job}
use Rattle.poll_law.proofs.Now.{poll_stands}
use Rattle.poll_outcomes.specs.Outcome.{IsOngoing}
use Rattle.poll_law.proofs.Speaks.{Speaks}
use Rattle.poll_law.proofs.Finish.{finish}
use Rattle.poll_law.proofs.Steps.{comes}
use Rattle.verbs_rules.specs.Within.{Bounds}
use Rattle.verbs_rules.specs.Shape.{Shape, Posts, Takes, Once, Until, shape_of}
use Rattle.load_law.specs.Law.{LoadsCome}
use Rattle.poll_law.specs.Law.{IsPoll, PollsGo}

module _ (loads : LoadsCome) (d : Lines) (programs : List (List Call)) (total : Bounds) (map : IsMapped d) (m : Memory) (w : Actors) (r : Running) (x : Marked Mark) (t : ℕ) (h : Holds d programs total m w r) (tells : Tells m x.entry) where
  abbrev th : Thread
  th = w.threads (suc t)

  abbrev goal : Thread → ℕ → Option What → Type 0
  goal now seen told = Goes d programs total (after_entry m x.entry) (record { adapter = w.adapter; threads = put_number w.threads (suc t) now; posted = posted_with w.posted told }) r seen (option_map (by (suc t)) told)

  -- what is to be shown of an operation in a call of this shape, or with these calls
  abbrev WantedIn : List Call → Shape → Type 0
  WantedIn rest shape = goal (after_in d th shape rest x) (sees_in d th shape x) (says_in d th shape x)

  abbrev Wanted : List Call → Type 0
  Wanted calls = goal (after_call d th calls x) (call_sees d th calls x) (call_says d th calls x)

  own_calls : (calls : List Call) → th.calls ≡ calls → AllByRecursion (IsOwnCall d programs (suc t)) calls
  own_calls calls are = subst (AllByRecursion (IsOwnCall d programs (suc t))) are (h.stands.bare.threads t).calls

  -- the outcome of the operation, as its call tells it and ends
  module _ (cq most : ℕ) (calls : List Call) (calls_are : th.calls ≡ calls) (job : Job d programs (suc t) cq most calls) (calls_after : Step Completion PollAnswer → List Call) (speak : Option What → Option What)
      (speaks : Speaks d programs (suc t) cq most calls job calls_after speak) (may : MayPoll d th cq most x) where
    abbrev now : PollRule
    now = poll_now th cq most

    abbrev then_is : PollRule
    then_is = after_poll_side (poll_place d cq) now (poll_mark d cq x.mark) x.entry

    abbrev answer : Step Completion PollAnswer
    answer = (polled d th cq most x).answer

    goes : goal (record { calls = calls_after answer; posting = th.posting; given = given_after th.given answer; posters = th.posters; polls = put_number th.polls cq then_is; ended = th.ended }) then_is.seen (speak (poll_says d th cq most x))
    goes = finish d programs total m (after_entry m x.entry) w r t cq most h calls calls_are job calls_after speak speaks then_is answer (poll_says d th cq most x)
        (comes loads d m (view programs w) cq most h.stands.lists r.verbs now.host now.seen now.retirers th.given x.entry now.state x.mark (record { stands = poll_stands d programs total m w r t cq most map h calls calls_are job; tells = tells; on = may.on; allowed = may.goes_on }))

  -- The two calls

  module _ (call : Call) (rest : List Call) (calls_are : th.calls ≡ call ∷ rest) (cq most : ℕ) (so : shape_of call ≡ Takes cq (Once most)) where
    abbrev job_of_poll : Job d programs (suc t) cq most (call ∷ rest)
    job_of_poll = poll_job d programs (suc t) cq call rest most so (own_calls (call ∷ rest) calls_are)

    poll_goes_on : (a : Step Completion PollAnswer) → IsOngoing a → calls_after_poll th.calls rest a ≡ call ∷ rest
    poll_goes_on More going = calls_are
    poll_goes_on (Gave completion) going = calls_are
    poll_goes_on (Done a) going = absurd going

    poll_speaks : Speaks d programs (suc t) cq most (call ∷ rest) job_of_poll (calls_after_poll th.calls rest) (λ told. told)
    poll_speaks = record {
      goes_on = poll_goes_on;
      over = λ taken word some. refl;
      silent = refl;
      tells = λ xs some. refl;
      retires = λ queue number. refl;
      acks = λ index. refl;
      answers = λ xs some few. (refl, refl);
      empty = inl (record { over = λ word. refl; says = refl; answers = (refl, refl) });
      leaves = λ xs. refl;
      goes = λ n total' v dues u others bounded owes. polling_goes n total' v dues cq most bounded u others owes;
    }

    in_poll : MayPoll d th cq most x → WantedIn rest (Takes cq (Once most))
    in_poll may = goes cq most (call ∷ rest) calls_are job_of_poll (calls_after_poll th.calls rest) (λ told. told) poll_speaks may

  module _ (call : Call) (rest : List Call) (calls_are : th.calls ≡ call ∷ rest) (cq count : ℕ) (so : shape_of call ≡ Takes cq (Until count)) where
    abbrev job_of_drain : Job d programs (suc t) cq 1 (call ∷ rest)
    job_of_drain = drain_job d programs (suc t) cq call rest count so (own_calls (call ∷ rest) calls_are)

    drain_goes_on : (a : Step Completion PollAnswer) → IsOngoing a → calls_after_drain th.calls cq count rest a ≡ call ∷ rest
    drain_goes_on More going = calls_are
    drain_goes_on (Gave completion) going = calls_are
    drain_goes_on (Done a) going = absurd going

    tells_some : (xs : List Completion) → 0 < length xs → took_some (Some (entries.Poll cq 1 xs)) ≡ Some (entries.Poll cq 1 xs)
    tells_some [] some = absurd (omega (arith, some))
    tells_some (y ∷ ys) some = refl

    took : (taken : ℕ) → 0 < taken → (taken == 0) ≡ false
    took taken some = differs taken 0 (λ none. omega (arith, some, none))

    drain_speaks : Speaks d programs (suc t) cq 1 (call ∷ rest) job_of_drain (calls_after_drain th.calls cq count rest) took_some
    drain_speaks = record {
      goes_on = drain_goes_on;
      over = λ taken word some. ap (λ (b : Bool). if b then th.calls else drain_left cq count rest) (took taken some);
      silent = refl;
      tells = tells_some;
      retires = λ queue number. refl;
      acks = λ index. refl;
      answers = λ xs some few. (refl, refl, omega (arith, some, few));
      empty = inr (record { goes_on = λ word. calls_are; silent = refl });
      leaves = λ xs. refl;
      goes = λ n total' v dues u others bounded owes. draining_goes n total' v dues u cq others bounded owes;
    }

    in_drain : MayPoll d th cq 1 x → WantedIn rest (Takes cq (Until count))
    in_drain may = goes cq 1 (call ∷ rest) calls_are job_of_drain (calls_after_drain th.calls cq count rest) took_some drain_speaks may

  by_shape : (call : Call) (rest : List Call) → th.calls ≡ call ∷ rest → (shape : Shape) → shape_of call ≡ shape → IsPoll shape → MayIn d th shape x → WantedIn rest shape
  by_shape call rest is (Posts queue items) so polls may = absurd polls
  by_shape call rest is (Takes cq (Once most)) so polls may = in_poll call rest is cq most so may
  by_shape call rest is (Takes cq (Until count)) so polls may = in_drain call rest is cq count so may

  by_calls : (calls : List Call) → th.calls ≡ calls → IsFirst IsPoll calls → MayCall d th (suc t) calls x → Wanted calls
  by_calls [] is polls may = absurd polls
  by_calls (call ∷ rest) is polls may = by_shape call rest is (shape_of call) refl polls may

pub polls_go : LoadsCome → (d : Lines) (programs : List (List Call)) (total : Bounds) → IsMapped d → PollsGo d programs total
polls_go loads d programs total map_ok t m w r x holds tells actor polls may = by_calls loads d programs total map_ok m w r x t holds tells (w.threads (suc t)).calls refl polls may
