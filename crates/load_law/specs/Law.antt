-- The law of the loads of a poll.
use Rattle.std.specs.Prelude.{◌≡◌, ℕ, true, List}
use Rattle.bus_core.specs.declared.operation.BusEntry.{BusEntry}
use Rattle.bus_core.specs.Trace.{Memory}
use Rattle.verbs_types.specs.declared.completion.Completion.{Completion}
use Rattle.verbs_types.specs.declared.declaration.Lines.{Lines}
use Rattle.verbs_rules.specs.State.{Verbs}
use Rattle.owner_ring.specs.Consumer.{Consumer}
use Rattle.counted_ring.specs.Retirer.{Retirer}
use Rattle.object_places.specs.Objects.{Mark}
use Rattle.provider_poll.specs.declared.state.PollState.{PollState}
use Rattle.actor_rules.specs.Polling.{is_loading}
use Rattle.actor_rules.specs.View.{View}
use Rattle.actor_rules.specs.Objects.{Lists}
use Rattle.poll_outcomes.specs.Turn.{poll_at, MayTurn, ComesTo}

-- each operation that the rule of a poll allows while it loads comes to one of its outcomes
abbrev pub LoadsCome : Type 0
LoadsCome = (d : Lines) (m : Memory) (around : View) (cq most : ℕ) (l : Lists) (v : Verbs) (host : Consumer) (seen : ℕ) (retirers : List Retirer) (state : PollState) (given : List Completion) (mark : Mark) (e : BusEntry) → is_loading state ≡ true
    → MayTurn d m around cq most l v (poll_at host seen retirers state) given mark e → ComesTo d m around cq most l v (poll_at host seen retirers state) given mark e
