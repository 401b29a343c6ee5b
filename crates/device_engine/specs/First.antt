-- The adapter before its first operation.
use Rattle.std.specs.Prelude.{ℕ, ◌≡◌, ◌+◌, List, length, slice_get, Some, None}
use Rattle.verbs_types.specs.declared.declaration.Lines.{Lines}
use Rattle.verbs_types.specs.declared.declaration.TheConstants.{FIRST_QP}
use Rattle.cq_pair.specs.DeviceView as queue
use Rattle.device_engine.specs.declared.pair.Pair.{Pair}
use Rattle.device_engine.specs.Scan.{IsPair, IsQueue}
use Rattle.device_engine.specs.State.{fresh_adapter}
use Rattle.device_engine.specs.View.{ScanView, rule_of}

-- a queue pair of which nothing was seen
pub record IsFirstPair (d : Lines) (qp : ℕ) (p : Pair) : Type 0 where
  pub pair : IsPair d qp p
  pub task : p.requests.task ≡ None
  pub side : p.requests.side ≡ (fresh_adapter d).readers qp
  pub taken : p.taken ≡ 0

-- a completion queue in which nothing was published
pub record IsFirstQueue (d : Lines) (cq : ℕ) (q : queue.DeviceView) : Type 0 where
  pub queue_is : IsQueue d cq q
  pub task : q.task ≡ None
  pub side : q.side ≡ (fresh_adapter d).queues cq

-- the first `count` of them
pub record AreFirstPairs (d : Lines) (count : ℕ) (pairs : List Pair) : Type 0 where
  pub count_is : length pairs ≡ count
  pub each : (i : ℕ) (p : Pair) → slice_get pairs i ≡ Some p → IsFirstPair d (FIRST_QP + i) p

pub record AreFirstQueues (d : Lines) (count : ℕ) (queues : List queue.DeviceView) : Type 0 where
  pub count_is : length queues ≡ count
  pub each : (i : ℕ) (q : queue.DeviceView) → slice_get queues i ≡ Some q → IsFirstQueue d i q

-- it visits the first pair, and has seen nothing
pub record IsFresh (d : Lines) (v : ScanView) : Type 0 where
  pub declared : v.declared ≡ d
  pub rule : rule_of v ≡ fresh_adapter d
