-- Each outcome of an operation of a poll is one that its thread owes, and all stands after it.
use Rattle.std.proofs.Common.{◌≡◌, ℕ, zero, suc, inl, inr, refl, sym, ap, ◌∙◌, subst, arith, ◌-◌, ◌<◌, ◌≤◌, Bool, true, false, if◌then◌else◌, List, [], ◌∷◌, ◌++◌, length, map, take, slice_set, option_map, Option, None, Some}
use Rattle.std.proofs.lemmas.Bool.{eqb-true}
use Rattle.std.proofs.lemmas.List.{length-map}
use Rattle.bus_core.specs.declared.turn.Step.{Step}
use Rattle.bus_core.specs.declared.turn.Step.TheVariants.{More, Done}
use Rattle.bus_core.specs.Trace.{Memory}
use Rattle.verbs_types.specs.declared.call.Call.{Call}
use Rattle.verbs_types.specs.declared.completion.Completion.{Completion}
use Rattle.verbs_types.specs.declared.completion.Queue.TheVariants.{Send}
use Rattle.verbs_types.specs.declared.declaration.Lines.{Lines}
use Rattle.verbs_types.specs.declared.entry.What.{What}
use Rattle.verbs_types.specs.declared.entry.What.TheVariants.{Poll, Retire, Ack}
use Rattle.verbs_types.specs.declared.state.Unpolled.{Unpolled}
use Rattle.verbs_rules.specs.Family.{same_number}
use Rattle.verbs_rules.specs.Answered.{Due, Retiring, Acking}
use Rattle.verbs_rules.specs.State.{Verbs}
use Rattle.verbs_rules.specs.Step.{after}
use Rattle.verbs_rules.specs.Running.{Running}
use Rattle.provider_poll.specs.declared.answer.PollAnswer.{PollAnswer}
use Rattle.provider_poll.specs.declared.answer.PollAnswer.TheVariants.{Polled}
use Rattle.provider_poll.specs.declared.state.PollState.{PollState}
use Rattle.provider_poll.specs.declared.state.PollState.TheVariants as states
use Rattle.actor_rules.specs.View.{view, given_in}
use Rattle.provider_poll.specs.Rule.{PollRule}
use Rattle.actor_rules.specs.Family.{put_number}
use Rattle.actor_rules.specs.Thread.{Thread}
use Rattle.actor_rules.specs.Polling.{given_after, poll_now}
use Rattle.actor_rules.specs.Actors.{Actors, by, posted_with}
use Rattle.actor_rules.specs.Dues.{is_storing, store_dues}
use Rattle.verbs_rules.specs.Proper.{dues_of_thread}
use Rattle.verbs_rules.specs.Within as within
use Rattle.actor_rules.proofs.Families.{put_same}
use Rattle.verbs_laws.proofs.GoesSettle.{ends_owed, retire_goes, ack_goes}
use Rattle.verbs_laws.proofs.Waiting.{completion_in}
use Rattle.actor_rules.specs.Threads.{ThreadStands, IsPollFor}
use Rattle.actor_rules.specs.Holding.{Holds, Goes}
use Rattle.poll_law.proofs.Frame.{goes_on}
use Rattle.poll_outcomes.specs.Moves.{Moves}
use Rattle.poll_law.proofs.Dues.{shown_for, Job, owed_at, owed_now, owes_from, silent_goes, says_goes, thread_goes_on, thread_ends}
use Rattle.poll_law.proofs.Now.{begun_owes}
use Rattle.poll_outcomes.specs.Outcome.{Outcome, GoesOn, Takes, Nothing, Stores, Ends, Loads, Tells, FindsNone, Retires, Acknowledges}
use Rattle.poll_law.proofs.Speaks.{Speaks}
use Rattle.verbs_rules.specs.Within.{Bounds}

shown_none : (state : PollState) → given_in state [] ≡ []
shown_none states.Idle = refl
shown_none (states.Polling most ends) = refl
shown_none (states.LookingUp most ends c queue) = refl
shown_none (states.Retiring taken empty left) = refl
shown_none (states.Acking taken empty) = refl

abbrev nothing_there : List Unpolled
nothing_there = []

take_none : (n : ℕ) → take n nothing_there ≡ nothing_there
take_none zero = refl
take_none (suc n) = refl

take_few : (n : ℕ) (us : List Unpolled) → length (take n us) ≤ n
take_few zero us = omega arith
take_few (suc n) [] = omega arith
take_few (suc n) (u ∷ us) = omega (arith, take_few n us)

-- a poll that takes none leaves the queues as they are
pub polls_none : (v : Verbs) (cq most : ℕ) → after v (Poll cq most []) ≡ v
polls_none v cq most = ap (λ (f : ℕ → List Unpolled). record v { unpolled = f }) (put_same same_number v.unpolled cq (v.unpolled cq) (λ j same. eqb-true j cq same) refl)

module _ (d : Lines) (cq : ℕ) (due : Due) (more : List Due) (state : PollState) where
  pub owed_before : is_storing state ≡ false → owed_at d cq due more state ≡ due ∷ more
  owed_before loads = ap (λ (b : Bool). (if b then store_dues d cq state else due ∷ []) ++ more) loads

  pub owed_behind : is_storing state ≡ true → owed_at d cq due more state ≡ store_dues d cq state ++ more
  owed_behind stores = ap (λ (b : Bool). (if b then store_dues d cq state else due ∷ []) ++ more) stores

module _ (d : Lines) (programs : List (List Call)) (total : Bounds) (m m' : Memory) (w : Actors) (r : Running) (t cq most : ℕ) (h : Holds d programs total m w r)
    (calls : List Call) (calls_are : (w.threads (suc t)).calls ≡ calls) (job : Job d programs (suc t) cq most calls)
    (calls_after : Step Completion PollAnswer → List Call) (speak : Option What → Option What) (speaks : Speaks d programs (suc t) cq most calls job calls_after speak) where
  abbrev th : Thread
  th = w.threads (suc t)

  abbrev now_is : PollRule
  now_is = poll_now th cq most

  -- what is owed before
  owed_first : dues_of_thread h.dues t ≡ owed_at d cq job.due job.more now_is.state
  owed_first = owed_now d programs total m m' w r t cq most h calls calls_are job ∙ sym (begun_owes d cq most job.due job.more (th.polls cq).state)

  abbrev goal : PollRule → List Completion → List Call → Option What → Type 0
  goal p given calls' told = Goes d programs total m' (record { adapter = w.adapter; threads = put_number w.threads (suc t) (goes_on th cq p given calls'); posted = posted_with w.posted told }) r p.seen (option_map (by (suc t)) told)

  as_told : (p : PollRule) (given : List Completion) (old calls' : List Call) (said told : Option What) → old ≡ calls' → said ≡ told → goal p given calls' told → goal p given old said
  as_told p given old calls' said told same says g = subst (λ (cs : List Call). goal p given cs said) (sym same) (subst (goal p given calls') (sym says) g)

  module _ (p : PollRule) (answer : Step Completion PollAnswer) (said : Option What) where
    abbrev wanted : Type 0
    wanted = goal p (given_after th.given answer) (calls_after answer) (speak said)

    on_load : Loads d m' (view programs w) cq most h.stands.lists r.verbs now_is th.given p answer said → wanted
    on_load o =
        as_told p (given_after th.given answer) (calls_after answer) calls (speak said) None (speaks.goes_on answer o.goes_on) (ap speak o.silent ∙ speaks.silent)
        (silent_goes d programs total m m' w r t cq most h calls calls_are job p (given_after th.given answer) o.polls
        (owed_before d cq job.due job.more p.state o.loads ∙ sym (owed_before d cq job.due job.more now_is.state o.before) ∙ begun_owes d cq most job.due job.more (th.polls cq).state) o.moved)

    on_tell : Tells d m' (view programs w) cq most h.stands.lists r.verbs now_is th.given p answer said → wanted
    on_tell o =
        let us : List Unpolled = take most (r.verbs.unpolled cq) in
        let xs : List Completion = map completion_in us in
        let is : dues_of_thread h.dues t ≡ job.due ∷ job.more = owed_first ∙ owed_before d cq job.due job.more now_is.state o.before in
        let long : length xs ≡ length us = length-map us completion_in in
        let few : length us ≤ most = take_few most (r.verbs.unpolled cq) in
        let some : 0 < length xs = omega (arith, o.some, long) in
        let thread = subst (ThreadStands d programs (suc t) (goes_on th cq p (given_after th.given answer) calls)) (owed_behind d cq job.due job.more p.state o.stores ∙ ap (λ (ds : List Due). ds ++ job.more) o.owed)
        (thread_goes_on d programs total m m' w r t cq most h calls calls_are job p (given_after th.given answer) o.polls) in
        as_told p (given_after th.given answer) (calls_after answer) calls (speak said) (Some (Poll cq most xs)) (speaks.goes_on answer o.goes_on) (ap speak o.says ∙ speaks.tells xs some)
        (says_goes d programs total m m' w r t cq most h calls calls_are job (Poll cq most xs) p (given_after th.given answer) calls job.due job.more (ends_owed cq us) (shown_for most _ p.state o.polls) is
        (speaks.answers xs some (omega (arith, long, few))) o.serves (speaks.leaves xs) (speaks.goes (length d.qps) total r.verbs h.dues t job.more h.stands.bare.sound.bounded (owes_from h.dues t job.due job.more is)) thread o.moved)

    on_none : FindsNone d m' (view programs w) cq most h.stands.lists r.verbs now_is th.given p answer said → wanted
    on_none o = elim speaks.empty [
      | inl tells ↦
          let us : List Unpolled = take most (r.verbs.unpolled cq) in
          let none : us ≡ [] = ap (take most) o.none ∙ take_none most in
          let is : dues_of_thread h.dues t ≡ job.due ∷ job.more = owed_first ∙ owed_before d cq job.due job.more now_is.state o.before in
          let goes = subst (λ (vs : List Unpolled). within.Goes (length d.qps) total r.verbs (suc t) (Poll cq most (map completion_in vs)) (slice_set h.dues t (ends_owed cq vs ++ job.more))) none (speaks.goes (length d.qps) total r.verbs h.dues t job.more h.stands.bare.sound.bounded (owes_from h.dues t job.due job.more is)) in
          subst (λ (x : Step Completion PollAnswer). goal p (given_after th.given x) (calls_after x) (speak said)) (sym o.over)
          (as_told p [] (calls_after (Done (Polled 0 o.word))) job.left (speak said) (Some (Poll cq most [])) (tells.over o.word) (ap speak o.says ∙ tells.says)
          (says_goes d programs total m m' w r t cq most h calls calls_are job (Poll cq most []) p [] job.left job.due job.more [] (shown_none p.state) is tells.answers o.serves (speaks.leaves []) goes
          (thread_ends d programs total m m' w r t cq most h calls calls_are job p o.idle) (subst (λ (x : Verbs). Moves d (view programs w) cq m' h.stands.lists r.verbs p [] x) (sym (polls_none r.verbs cq most)) o.moved)))
      | inr again ↦
          let loads : is_storing p.state ≡ false = ap is_storing o.idle in
          subst (λ (x : Step Completion PollAnswer). goal p (given_after th.given x) (calls_after x) (speak said)) (sym o.over)
          (as_told p [] (calls_after (Done (Polled 0 o.word))) calls (speak said) None (again.goes_on o.word) (ap speak o.says ∙ again.silent)
          (silent_goes d programs total m m' w r t cq most h calls calls_are job p [] (subst (IsPollFor most []) (sym o.idle) refl)
          (owed_before d cq job.due job.more p.state loads ∙ sym (owed_before d cq job.due job.more now_is.state o.before) ∙ begun_owes d cq most job.due job.more (th.polls cq).state) o.moved))
    ]

    on_retire : Retires d m' (view programs w) cq most h.stands.lists r.verbs now_is th.given p answer said → wanted
    on_retire o =
        let rest : List Due = store_dues d cq p.state ++ job.more in
        let is : dues_of_thread h.dues t ≡ Retiring (Send o.qp) ∷ rest = owed_first ∙ owed_behind d cq job.due job.more now_is.state o.before ∙ ap (λ (ds : List Due). ds ++ job.more) o.owed in
        let thread = subst (ThreadStands d programs (suc t) (goes_on th cq p th.given calls)) (owed_behind d cq job.due job.more p.state o.stores)
        (thread_goes_on d programs total m m' w r t cq most h calls calls_are job p th.given o.polls) in
        subst (λ (x : Step Completion PollAnswer). goal p (given_after th.given x) (calls_after x) (speak said)) (sym o.more)
        (as_told p th.given (calls_after More) calls (speak said) (Some (Retire (Send o.qp) o.number)) (speaks.goes_on More tt) (ap speak o.says ∙ speaks.retires (Send o.qp) o.number)
        (says_goes d programs total m m' w r t cq most h calls calls_are job (Retire (Send o.qp) o.number) p th.given calls (Retiring (Send o.qp)) rest [] (shown_for most th.given p.state o.polls) is refl tt refl
        (retire_goes (length d.qps) total r.verbs h.dues t o.qp o.number o.others rest h.stands.bare.sound.bounded (owes_from h.dues t (Retiring (Send o.qp)) rest is) o.first) thread o.moved))

    on_end : Acknowledges d m' (view programs w) cq most h.stands.lists r.verbs now_is th.given p answer said → wanted
    on_end o =
        let index : ℕ = (r.verbs.device.produced cq) - length (r.verbs.unpolled cq) in
        let is : dues_of_thread h.dues t ≡ Acking cq ∷ job.more = owed_first ∙ owed_behind d cq job.due job.more now_is.state o.before ∙ ap (λ (ds : List Due). ds ++ job.more) o.owed in
        subst (λ (x : Step Completion PollAnswer). goal p (given_after th.given x) (calls_after x) (speak said)) (sym o.over)
        (as_told p [] (calls_after (Done (Polled o.taken o.word))) job.left (speak said) (Some (Ack cq index)) (speaks.over o.taken o.word o.some) (ap speak o.says ∙ speaks.acks index)
        (says_goes d programs total m m' w r t cq most h calls calls_are job (Ack cq index) p [] job.left (Acking cq) job.more [] (shown_none p.state) is refl tt refl
        (ack_goes (length d.qps) total r.verbs h.dues t cq job.more h.stands.bare.sound.bounded (owes_from h.dues t (Acking cq) job.more is)) (thread_ends d programs total m m' w r t cq most h calls calls_are job p o.idle) o.moved))

    pub finish : Outcome d m' (view programs w) cq most h.stands.lists r.verbs now_is th.given p answer said → wanted
    finish (GoesOn o) = on_load o
    finish (Takes o) = on_tell o
    finish (Nothing o) = on_none o
    finish (Stores o) = on_retire o
    finish (Ends o) = on_end o
