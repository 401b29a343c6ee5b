-- What stands between two operations of the scan, and what an operation does.
use Rattle.std.specs.Prelude.{ℕ, ◌≡◌, ◌+◌, ◌^◌, ◌<◌, ◌≤◌, ◌==◌, IsTrue, MatchBool, if◌then◌else◌, length, slice_get, Option, Some, None}
use Rattle.verbs_types.specs.declared.declaration.Lines.{Lines}
use Rattle.verbs_types.specs.declared.declaration.TheConstants.{FIRST_QP}
use Rattle.verbs_types.specs.Lines.{is_declared}
use Rattle.actor_map.specs.Sizes.{words_of}
use Rattle.cqe_format.specs.declared.completion.Cqe.{Cqe}
use Rattle.cqe_format.specs.Completion.{IsCompletion}
use Rattle.owner_ring.specs.Producer.{next_index}
use Rattle.cq_pair.specs.DeviceView as queue
use Rattle.object_places.specs.Places.{IsWithin, AreWithin, completions_of, send_of}
use Rattle.device_engine.specs.declared.pair.Pair.{Pair}
use Rattle.device_engine.specs.declared.scan.Work.{Work}
use Rattle.device_engine.specs.declared.scan.Work.TheVariants as works
use Rattle.device_engine.specs.declared.outcome.NextWork.{NextWork}
use Rattle.device_engine.specs.declared.outcome.NextWork.TheVariants.{Same, Record, Read, Publish, Next, First}
use Rattle.device_engine.specs.Pair.{IsMatched, AtRead}
use Rattle.device_engine.specs.State.{may_send, send_cq}
use Rattle.device_engine.specs.View.{ScanView}

-- the queue pair of a number, as the declaration has it
pub record IsPair (d : Lines) (qp : ℕ) (p : Pair) : Type 0 where
  pub matched : IsMatched p
  pub number : p.number ≡ qp
  pub place : p.requests.place ≡ send_of d qp
  pub within : IsWithin (words_of d) p.requests.place
  pub may_send : p.may_send ≡ may_send d qp
  pub send_cq : p.send_cq ≡ send_cq d qp
  pub send_cq_lives : p.send_cq < length d.cqs

-- the completion queue of a number
pub record IsQueue (d : Lines) (cq : ℕ) (q : queue.DeviceView) : Type 0 where
  pub place : q.place ≡ completions_of d cq
  pub within : AreWithin (words_of d) q.place

-- the one task that may be under way: the pair at a place is read, or a completion is published
pub data Task : Type 0 where
  Idle : Task
  ReadsPair : (place : ℕ) → Task
  Publishes : (cq : ℕ) (completion : Cqe) → Task

-- there is no task in the pair, or an entry is read that is ready
pub record IsReading (p : Pair) : Type 0 where
  pub task : AtRead p.requests.task
  pub ready : 0 < p.requests.side.ready

abbrev pub PairTask : Task → ℕ → Pair → Type 0
PairTask (ReadsPair place) i p = MatchBool (i == place) (IsReading p) (p.requests.task ≡ None)
PairTask _ i p = p.requests.task ≡ None

abbrev pub queue_task : Task → ℕ → Option Cqe
queue_task (Publishes cq completion) i = if i == cq then Some completion else None
queue_task _ i = None

-- every pair and every completion queue is the declared one of its number, and no other task is under way
pub record IsScan (v : ScanView) (t : Task) : Type 0 where
  pub declared : IsTrue (is_declared v.declared)
  pub all_pairs : length v.pairs ≡ length v.declared.qps
  pub all_queues : length v.queues ≡ length v.declared.cqs
  pub visit : v.visit ≤ length v.pairs
  pub pairs : (i : ℕ) (p : Pair) → slice_get v.pairs i ≡ Some p → IsPair v.declared (FIRST_QP + i) p
  pub queues : (i : ℕ) (q : queue.DeviceView) → slice_get v.queues i ≡ Some q → IsQueue v.declared i q
  pub pair_tasks : (i : ℕ) (p : Pair) → slice_get v.pairs i ≡ Some p → PairTask t i p
  pub queue_tasks : (i : ℕ) (q : queue.DeviceView) → slice_get v.queues i ≡ Some q → q.task ≡ queue_task t i

-- the task of what the adapter is at
abbrev pub task_of : Work → ℕ → Task
task_of works.Reading visit = ReadsPair visit
task_of (works.Publishing cq completion) visit = Publishes cq completion.value
task_of _ visit = Idle

abbrev pub IsPublishing : Work → ℕ → Type 0
IsPublishing (works.Publishing cq completion) number = cq ≡ number
IsPublishing _ number = ⊥

-- what the adapter is at is there
abbrev pub IsThere : ScanView → Work → Type 0
IsThere v works.Looking = v.visit < length v.pairs
IsThere v works.Recording = v.visit < length v.pairs
IsThere v works.Reading = v.visit < length v.pairs
IsThere v (works.Publishing cq completion) = (v.visit < length v.pairs) × (cq < length v.queues)
IsThere v works.Ending = Unit {0}

pub record IsStanding (v : ScanView) : Type 0 where
  pub scan : IsScan v (task_of v.work v.visit)
  pub there : IsThere v v.work

-- the task before the adapter goes on
abbrev pub task_before : NextWork → ScanView → Task
task_before Same v = task_of v.work v.visit
task_before Read v = ReadsPair v.visit
task_before _ v = Idle

-- a completion can be published
pub record CanPublish (v : ScanView) (cq : ℕ) (completion : Cqe) : Type 0 where
  pub lives : cq < length v.queues
  pub completion_is : IsCompletion completion
  pub low : (q : queue.DeviceView) → slice_get v.queues cq ≡ Some q → next_index q.side.producer < 2 ^ 62

-- the adapter can go on to this
abbrev pub CanGo : ScanView → NextWork → Type 0
CanGo v Same = IsThere v v.work
CanGo v Record = v.visit < length v.pairs
CanGo v Read = v.visit < length v.pairs
CanGo v (Publish cq completion) = (v.visit < length v.pairs) × CanPublish v cq completion
CanGo v Next = v.visit < length v.pairs
CanGo v First = Unit {0}
