-- The rule of the side that polls, over its own operations.
use Rattle.std.specs.Prelude.{ℕ, ◌≡◌, ◌^◌, nat_lt, if◌then◌else◌, List, [], ◌∷◌, slice_get, Some}
use Rattle.bus_core.specs.declared.operation.BusEntry.{BusEntry}
use Rattle.cqe_format.specs.declared.completion.Cqe.{Cqe}
use Rattle.owner_ring.specs.Consumer.{Consumer, Waiting, Reading, next_index}
use Rattle.cq_pair.specs.declared.place.CqPlace.{CqPlace}
use Rattle.cq_pair.specs.Mark.{QueueMark, Look, Read, Take, Acknowledge}
use Rattle.cq_pair.specs.Host.{MayPoll}
use Rattle.counted_ring.specs.declared.place.WqPlace.{WqPlace}
use Rattle.counted_ring.specs.Retirer.{Retirer}
use Rattle.counted_ring.specs.RetirerView.{MayServe, lookup_mark}
use Rattle.counted_ring.specs.Mark.{WqMark, Retire}
use Rattle.provider_poll.specs.declared.state.End.{End}
use Rattle.provider_poll.specs.declared.state.PollState.{PollState}
use Rattle.provider_poll.specs.declared.state.PollState.TheVariants.{Polling, LookingUp, Retiring, Acking}
use Rattle.provider_poll.specs.SendQueue.{SendView}

-- where a send queue lies, and of which queue pair it is
pub record QueuePlace : Type 0 where
  pub number : ℕ
  pub place : WqPlace

-- where a completion queue lies, and the send queues that complete to it
pub record PollPlace : Type 0 where
  pub cq : CqPlace
  pub queues : List QueuePlace

-- what the side is before its next operation
pub record PollRule : Type 0 where
  pub host : Consumer
  -- up to which index the last owner word showed the completion queue as published
  pub seen : ℕ
  -- of the send queues, in their order
  pub retirers : List Retirer
  pub state : PollState

-- what an operation is about: the completion queue, or one of the send queues
pub data PollMark : Type 0 where
  OnHost : (mark : QueueMark) → PollMark
  OnQueue : (index : ℕ) (mark : WqMark) → PollMark

-- each queue where it lies
abbrev pub queues_at : List QueuePlace → List Retirer → List SendView
queues_at [] rs = []
queues_at (q ∷ qs) [] = []
queues_at (q ∷ qs) (r ∷ rs) = record { number = q.number; place = q.place; side = r } ∷ queues_at qs rs

abbrev pub queues_of : PollPlace → PollRule → List SendView
queues_of place s = queues_at place.queues s.retirers

abbrev pub IsRead : QueueMark → Type 0
IsRead Read = Unit {0}
IsRead (Take completion) = Unit {0}
IsRead _ = ⊥

-- a host that waits looks at the entry after the one that it took last, and one that reads goes on
abbrev pub IsNextOf : Consumer → QueueMark → Type 0
IsNextOf (Waiting acked next) mark = mark ≡ Look next
IsNextOf (Reading acked next index last words) mark = IsRead mark

-- a load of the completion queue's words
pub record MayLook (place : PollPlace) (s : PollRule) (mark : QueueMark) (e : BusEntry) : Type 0 where
  pub polls : MayPoll place.cq s.host mark e
  pub next : IsNextOf s.host mark

-- the store of the consumer index, after all that was taken
pub record MayAcknowledge (place : PollPlace) (s : PollRule) (mark : QueueMark) (e : BusEntry) : Type 0 where
  pub polls : MayPoll place.cq s.host mark e
  pub index : mark ≡ Acknowledge (next_index s.host)

-- an operation on the words of a send queue
pub record MayServeIn (place : PollPlace) (s : PollRule) (queue : ℕ) (mark : WqMark) (e : BusEntry) : Type 0 where
  pub served : SendView
  pub found : slice_get (queues_of place s) queue ≡ Some served
  pub serves : MayServe served.place served.side mark e

-- A lookup goes on from the end that was found last. Where that is no count of requests, it goes back to the tail.
abbrev pub found_before : Retirer → ℕ
found_before r = if nat_lt r.found (2 ^ 62) then r.found else r.tail

abbrev pub lookup_in : ℕ → Retirer → WqMark
lookup_in counter r = lookup_mark counter (found_before r) r.asked

-- a load of the lookup of a completion, in its queue
pub record MayLookUp (place : PollPlace) (s : PollRule) (c : Cqe) (queue index : ℕ) (mark : WqMark) (e : BusEntry) : Type 0 where
  pub queue_is : index ≡ queue
  pub serves : MayServeIn place s queue mark e
  pub mark_is : mark ≡ lookup_in c.counter serves.served.side

-- the store of an end, in its queue
pub record MayRetire (place : PollPlace) (s : PollRule) (end : End) (index : ℕ) (mark : WqMark) (e : BusEntry) : Type 0 where
  pub queue_is : index ≡ end.queue
  pub serves : MayServeIn place s end.queue mark e
  pub mark_is : mark ≡ Retire end.end

abbrev pub MayRetireFirst : PollPlace → PollRule → List End → ℕ → WqMark → BusEntry → Type 0
MayRetireFirst place s [] index mark e = ⊥
MayRetireFirst place s (end ∷ left) index mark e = MayRetire place s end index mark e

-- by how far the poll has come
abbrev pub MayGoOn : PollState → PollPlace → PollRule → PollMark → BusEntry → Type 0
MayGoOn (Polling max ends) place s (OnHost mark) e = MayLook place s mark e
MayGoOn (LookingUp max ends c queue) place s (OnQueue index mark) e = MayLookUp place s c queue index mark e
MayGoOn (Retiring taken empty left) place s (OnQueue index mark) e = MayRetireFirst place s left.items index mark e
MayGoOn (Acking taken empty) place s (OnHost mark) e = MayAcknowledge place s mark e
MayGoOn _ place s mark e = ⊥

abbrev pub MayPollSide : PollPlace → PollRule → PollMark → BusEntry → Type 0
MayPollSide place s mark e = MayGoOn s.state place s mark e
