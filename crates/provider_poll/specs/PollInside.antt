-- How the fields of a side that polls are seen.
use Rattle.std.specs.Prelude.{ℕ, ◌≡◌, ◌+◌, ◌^◌, ◌<◌, ◌≤◌, true, List, length, None}
use Rattle.arrayvec.specs.ArrayVec.{ArrayVec, array_vec_len}
use Rattle.owner_ring.specs.Consumer.{Consumer, Waiting, Reading, next_index}
use Rattle.cq_pair.specs.HostView.{HostView}
use Rattle.provider_poll.specs.declared.poll.PollSide.TheInside.{Inside}
use Rattle.provider_poll.specs.declared.state.End.{End}
use Rattle.provider_poll.specs.declared.state.PollState.{PollState}
use Rattle.provider_poll.specs.declared.state.PollState.TheVariants.{Idle, Polling, LookingUp, Retiring, Acking}
use Rattle.provider_poll.specs.SendQueue.{SendView}
use Rattle.provider_poll.specs.Stores.{is_ready}
use Rattle.provider_poll.specs.Turns.{IsPollingHost}
use Rattle.provider_poll.specs.Poll.{PollView}

abbrev pub poll_view : Inside → PollView
poll_view a = record { host = a.host; queues = a.queues; state = a.state; noted = a.noted }

-- the index of the entry that the host looks at or reads
abbrev pub entry_index : Consumer → ℕ
entry_index (Waiting acked next) = next
entry_index (Reading acked next index last words) = index

pub record IsPolling (host : HostView) (max : ℕ) (ends : ArrayVec End) : Type 0 where
  pub task : IsPollingHost host.task
  pub next : next_index host.side < 2 ^ 61 + array_vec_len ends
  pub more : array_vec_len ends < max
  pub few : max ≤ 16

pub record IsLookingUp (host : HostView) (queues : List SendView) (max : ℕ) (ends : ArrayVec End) (queue : ℕ) : Type 0 where
  pub task : host.task ≡ None
  pub next : next_index host.side < 2 ^ 61 + array_vec_len ends + 1
  pub more : array_vec_len ends < max
  pub few : max ≤ 16
  pub inside : queue < length queues

pub record IsRetiring (host : HostView) (queues : List SendView) (left : List End) : Type 0 where
  pub task : host.task ≡ None
  pub some : 0 < length left
  pub ready : is_ready queues left ≡ true

abbrev pub IsAtWork : HostView → List SendView → PollState → Type 0
IsAtWork host queues Idle = host.task ≡ None
IsAtWork host queues (Polling max ends) = IsPolling host max ends
IsAtWork host queues (LookingUp max ends c queue) = IsLookingUp host queues max ends queue
IsAtWork host queues (Retiring taken empty left) = IsRetiring host queues left.items
IsAtWork host queues (Acking taken empty) = host.task ≡ None

pub record IsPollSide (a : Inside) : Type 0 where
  pub number : a.number ≡ a.host.place.number
  pub entry : entry_index a.host.side ≤ next_index a.host.side
  pub work : IsAtWork a.host a.queues a.state
