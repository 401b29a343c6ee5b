-- What an operation of a poll may come to.
use Rattle.std.specs.Prelude.{◌≡◌, ℕ, ◌-◌, ◌<◌, true, false, List, [], ◌∷◌, length, map, take, Option, None, Some}
use Rattle.bus_core.specs.declared.turn.Step.{Step}
use Rattle.bus_core.specs.declared.turn.Step.TheVariants.{More, Done}
use Rattle.bus_core.specs.Trace.{Memory}
use Rattle.verbs_types.specs.declared.completion.Completion.{Completion}
use Rattle.verbs_types.specs.declared.completion.Queue.TheVariants.{Send}
use Rattle.verbs_types.specs.declared.declaration.Lines.{Lines}
use Rattle.verbs_types.specs.declared.entry.What.{What}
use Rattle.verbs_types.specs.declared.entry.What.TheVariants.{Poll, Retire, Ack}
use Rattle.verbs_types.specs.declared.state.Unpolled.{Unpolled}
use Rattle.actor_map.specs.Notes.{Serves}
use Rattle.verbs_rules.specs.Answered.{Retiring, Acking}
use Rattle.verbs_rules.specs.State.{Verbs}
use Rattle.verbs_rules.specs.Step.{after}
use Rattle.provider_poll.specs.declared.answer.PollAnswer.{PollAnswer}
use Rattle.provider_poll.specs.declared.answer.PollAnswer.TheVariants.{Polled}
use Rattle.provider_poll.specs.declared.state.PollState.TheVariants as states
use Rattle.provider_poll.specs.Rule.{PollRule}
use Rattle.actor_rules.specs.Polling.{given_after}
use Rattle.actor_rules.specs.Dues.{is_storing, store_dues}
use Rattle.verbs_laws.proofs.GoesSettle.{ends_owed}
use Rattle.verbs_laws.proofs.Waiting.{completion_in}
use Rattle.actor_rules.specs.View.{View}
use Rattle.actor_rules.specs.Objects.{Lists}
use Rattle.actor_rules.specs.Threads.{IsPollFor}
use Rattle.poll_outcomes.specs.Moves.{Moves}

-- the poll goes on
abbrev pub IsOngoing : Step Completion PollAnswer → Type 0
IsOngoing (Done answer) = ⊥
IsOngoing _ = Unit {0}

module _ (d : Lines) (m : Memory) (around : View) (cq most : ℕ) (l : Lists) (v : Verbs) (p : PollRule) (given : List Completion) where
  abbrev pub moves : PollRule → List Completion → Verbs → Type 0
  moves now given' v' = Moves d around cq m l v now given' v'

  -- the completions that the poll's entry tells of
  abbrev pub polled : List Unpolled
  polled = take most (v.unpolled cq)

  -- a load after which the poll goes on
  pub record Loads (now : PollRule) (answer : Step Completion PollAnswer) (said : Option What) : Type 0 where
    pub goes_on : IsOngoing answer
    pub silent : said ≡ None
    pub polls : IsPollFor most (given_after given answer) now.state
    pub before : is_storing p.state ≡ false
    pub loads : is_storing now.state ≡ false
    pub moved : moves now (given_after given answer) v

  -- the last load of a poll that took some
  pub record Tells (now : PollRule) (answer : Step Completion PollAnswer) (said : Option What) : Type 0 where
    pub goes_on : IsOngoing answer
    pub says : said ≡ Some (Poll cq most (map completion_in polled))
    pub some : 0 < length polled
    pub serves : Serves v (Poll cq most (map completion_in polled)) now.seen
    pub polls : IsPollFor most (given_after given answer) now.state
    pub before : is_storing p.state ≡ false
    pub stores : is_storing now.state ≡ true
    pub owed : store_dues d cq now.state ≡ ends_owed cq polled
    pub moved : moves now (given_after given answer) (after v (Poll cq most (map completion_in polled)))

  -- the last load of a poll that took none
  pub record FindsNone (now : PollRule) (answer : Step Completion PollAnswer) (said : Option What) : Type 0 where
    pub word : Option ℕ
    pub over : answer ≡ Done (Polled 0 word)
    pub says : said ≡ Some (Poll cq most [])
    pub none : (v.unpolled cq) ≡ []
    pub serves : Serves v (Poll cq most []) now.seen
    pub before : is_storing p.state ≡ false
    pub idle : now.state ≡ states.Idle
    pub moved : moves now [] v

  -- the store of a tail
  pub record Retires (now : PollRule) (answer : Step Completion PollAnswer) (said : Option What) : Type 0 where
    pub qp : ℕ
    pub number : ℕ
    pub others : List ℕ
    pub first : (v.settled (Send qp)).ends ≡ number ∷ others
    pub more : answer ≡ More
    pub says : said ≡ Some (Retire (Send qp) number)
    pub polls : IsPollFor most given now.state
    pub before : is_storing p.state ≡ true
    pub stores : is_storing now.state ≡ true
    pub owed : store_dues d cq p.state ≡ Retiring (Send qp) ∷ store_dues d cq now.state
    pub moved : moves now given (after v (Retire (Send qp) number))

  -- the store of the consumer index
  pub record Acknowledges (now : PollRule) (answer : Step Completion PollAnswer) (said : Option What) : Type 0 where
    pub taken : ℕ
    pub word : Option ℕ
    pub some : 0 < taken
    pub over : answer ≡ Done (Polled taken word)
    pub says : said ≡ Some (Ack cq ((v.device.produced cq) - length (v.unpolled cq)))
    pub before : is_storing p.state ≡ true
    pub idle : now.state ≡ states.Idle
    pub owed : store_dues d cq p.state ≡ Acking cq ∷ []
    pub moved : moves now [] (after v (Ack cq ((v.device.produced cq) - length (v.unpolled cq))))

  pub data Outcome (now : PollRule) (answer : Step Completion PollAnswer) (said : Option What) : Type 0 where
    GoesOn : Loads now answer said → Outcome now answer said
    Takes : Tells now answer said → Outcome now answer said
    Nothing : FindsNone now answer said → Outcome now answer said
    Stores : Retires now answer said → Outcome now answer said
    Ends : Acknowledges now answer said → Outcome now answer said
