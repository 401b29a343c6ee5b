-- An operation of a poll that its rule allows, and what it comes to.
use Rattle.std.specs.Prelude.{ℕ, List, Option, if◌then◌else◌}
use Rattle.bus_core.specs.Trace.{Memory, Tells, after_entry}
use Rattle.verbs_types.specs.declared.completion.Completion.{Completion}
use Rattle.verbs_types.specs.declared.declaration.Lines.{Lines}
use Rattle.verbs_types.specs.declared.entry.What.{What}
use Rattle.verbs_rules.specs.State.{Verbs}
use Rattle.provider_poll.specs.Rule.{PollRule, MayPollSide}
use Rattle.actor_rules.specs.Polling.{poll_mark, IsOnPolled, is_loading, load_says, store_says, given_with}
use Rattle.actor_rules.specs.View.{View}
use Rattle.actor_rules.specs.Objects.{Lists}
use Rattle.bus_core.specs.declared.operation.BusEntry.{BusEntry}
use Rattle.owner_ring.specs.Consumer.{Consumer}
use Rattle.counted_ring.specs.Retirer.{Retirer}
use Rattle.object_places.specs.Objects.{Mark}
use Rattle.provider_poll.specs.declared.state.PollState.{PollState}
use Rattle.provider_poll.specs.declared.poll_step.PollStep.{PollStep}
use Rattle.provider_poll.specs.RuleStep.{poll_side_step, after_poll_side}
use Rattle.provider_poll.specs.Fresh.{poll_place}
use Rattle.poll_outcomes.specs.Now.{PollNow}
use Rattle.poll_outcomes.specs.Outcome.{Outcome}

-- the poll under way, by its parts
abbrev pub poll_at : Consumer → ℕ → List Retirer → PollState → PollRule
poll_at host seen retirers state = record { host = host; seen = seen; retirers = retirers; state = state }

-- what the machine makes of an operation with this mark
abbrev pub turn_of : Lines → ℕ → PollRule → Mark → BusEntry → PollStep
turn_of d cq p mark e = poll_side_step (poll_place d cq) p (poll_mark d cq mark) e

-- what it says, before a drain drops a look that found none
abbrev pub turn_says : Lines → ℕ → ℕ → PollRule → List Completion → Mark → BusEntry → Option What
turn_says d cq most p given mark e = if is_loading p.state then load_says cq most (given_with given (turn_of d cq p mark e).answer) (turn_of d cq p mark e).state else store_says mark

-- the operation comes to one of the outcomes
abbrev pub ComesTo : Lines → Memory → View → ℕ → ℕ → Lists → Verbs → PollRule → List Completion → Mark → BusEntry → Type 0
ComesTo d m around cq most l v p given mark e = Outcome d (after_entry m e) around cq most l v p given (after_poll_side (poll_place d cq) p (poll_mark d cq mark) e) (turn_of d cq p mark e).answer (turn_says d cq most p given mark e)

-- one that the poll's rule allows
pub record MayTurn (d : Lines) (m : Memory) (around : View) (cq most : ℕ) (l : Lists) (v : Verbs) (p : PollRule) (given : List Completion) (mark : Mark) (e : BusEntry) : Type 0 where
  pub stands : PollNow d m around cq most l v p given
  pub tells : Tells m e
  pub on : IsOnPolled d cq mark
  pub allowed : MayPollSide (poll_place d cq) p (poll_mark d cq mark) e
