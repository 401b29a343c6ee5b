-- What the side that polls is to a caller, and what a turn of it does.
use Rattle.std.specs.Prelude.{ℕ, ◌≡◌, ◌+◌, ◌*◌, ◌<◌, ◌≤◌, All, List, [], ◌∷◌, map, Option, None}
use Rattle.bus_core.specs.declared.operation.BusEntry.{BusEntry}
use Rattle.bus_core.specs.declared.turn.Note.{Note}
use Rattle.bus_core.specs.declared.turn.Step.{Step}
use Rattle.bus_core.specs.Port.{Port, HasRoom}
use Rattle.verbs_types.specs.declared.completion.Completion.{Completion}
use Rattle.owner_ring.specs.Consumer.{Waiting}
use Rattle.owner_ring.specs.Place.{size}
use Rattle.cq_pair.specs.declared.place.CqPlace.{CqPlace}
use Rattle.cq_pair.specs.Place.{ring_of}
use Rattle.cq_pair.specs.HostView.{HostView}
use Rattle.cq_pair.specs.HostView as host
use Rattle.object_places.specs.Places.{IsWithin}
use Rattle.provider_poll.specs.declared.answer.PollAnswer.{PollAnswer}
use Rattle.provider_poll.specs.declared.state.End.{End}
use Rattle.provider_poll.specs.declared.state.PollState.{PollState}
use Rattle.provider_poll.specs.declared.state.PollState.TheVariants.{Idle, Polling, LookingUp, Retiring, Acking}
use Rattle.provider_poll.specs.declared.poll_step.PollStep.{PollStep}
use Rattle.provider_poll.specs.SendQueue.{SendView, forgotten_queue}
use Rattle.provider_poll.specs.Turns.{Looks, LooksUp, Retires, Acknowledges, places}

pub record PollView : Type 0 where
  -- its host: where the queue lies, and up to where it took and acknowledged completions
  pub host : HostView
  -- the send queues that complete to it
  pub queues : List SendView
  pub state : PollState
  -- the note of the last turn's operation
  pub noted : Option Note

abbrev pub fresh_side : CqPlace → ℕ → List SendView → PollView
fresh_side place start queues = record {
  host = record { place = place; side = Waiting start start; task = None; seen = 0 };
  queues = queues;
  state = Idle;
  noted = None;
}

-- a poll before its first operation
abbrev pub begun : PollView → ℕ → PollView
begun v max = record v { state = Polling max (record { items = [] }) }

abbrev pub IsBusy : PollState → Type 0
IsBusy Idle = ⊥
IsBusy _ = Unit {0}

-- a poll that has stored nothing
abbrev pub MayDrop : PollState → Type 0
MayDrop (Retiring taken empty left) = ⊥
MayDrop (Acking taken empty) = ⊥
MayDrop _ = Unit {0}

abbrev pub forgotten : PollView → PollView
forgotten v = record { host = host.forgotten v.host; queues = map forgotten_queue v.queues; state = Idle; noted = None }

-- its words are among the first `words`
pub record LiesWithin (words : ℕ) (v : PollView) : Type 0 where
  pub ring : (ring_of v.host.place).base + 8 * size (ring_of v.host.place) ≤ words
  pub record_word : v.host.place.dbr < words
  pub queues : All (IsWithin words) (places v.queues)

-- a port through which the side can make its next operation
pub record CanPoll {Bus : Type 0} (v : PollView) (port : Port Bus) : Type 0 where
  pub room : HasRoom port.room
  pub words : LiesWithin port.words v

-- the first of the ends that are left is stored
abbrev pub RetiresFirst : List SendView → List SendView → ℕ → Option ℕ → List End → BusEntry → PollStep → Type 0
RetiresFirst old new taken empty [] e turned = ⊥
RetiresFirst old new taken empty (first ∷ left) e turned = Retires old new taken empty first left e turned

-- what a turn does, by how far the poll has come
abbrev pub Turns : PollState → PollView → PollView → BusEntry → PollStep → Type 0
Turns Idle old new e turned = ⊥
Turns (Polling max ends) old new e turned = Looks old.host.place.number old.host new.host old.queues max ends e turned × (new.queues ≡ old.queues)
Turns (LookingUp max ends c queue) old new e turned = LooksUp old.host.place.number old.host.seen old.queues new.queues max ends c queue e turned × (new.host ≡ old.host)
Turns (Retiring taken empty left) old new e turned = RetiresFirst old.queues new.queues taken empty left.items e turned × (new.host ≡ old.host)
Turns (Acking taken empty) old new e turned = Acknowledges old.host.place.number old.host new.host taken empty e turned × (new.queues ≡ old.queues)

-- one operation, which keeps the rule of the host, or of the poller of one of the queues
pub record SideTurn (old new : PollView) (e : BusEntry) (answer : Step Completion PollAnswer) : Type 0 where
  pub turned : PollStep
  pub turns : Turns old.state old new e turned
  pub state : new.state ≡ turned.state
  pub answer_is : answer ≡ turned.answer
  pub noted : new.noted ≡ turned.noted
  pub host_place : new.host.place ≡ old.host.place
  pub places : places new.queues ≡ places old.queues
