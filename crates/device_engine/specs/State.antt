-- What the adapter is before its next operation, and at what it is.
use Rattle.std.specs.Prelude.{ℕ, ◌+◌, ◌==◌, if◌then◌else◌, Bool, length}
use Rattle.verbs_types.specs.declared.declaration.Lines.{Lines}
use Rattle.verbs_types.specs.declared.declaration.TheConstants.{FIRST_QP}
use Rattle.verbs_rules.specs.Family.{put}
use Rattle.verbs_types.specs.Lines.{is_among}
use Rattle.verbs_rules.specs.Rows.{works}
use Rattle.verbs_rules.specs.Start.{start_pair}
use Rattle.cqe_format.specs.declared.completion.Cqe.{Cqe}
use Rattle.cq_pair.specs.Device.{QueueDevice}
use Rattle.cq_pair.specs.Law as completions
use Rattle.counted_ring.specs.Device.{WqReader}
use Rattle.counted_ring.specs.Law as requests
use Rattle.object_places.specs.Places.{cq_line, qp_line}

pub data AdapterAt : Type 0 where
  -- it loads the register of the pair that it visits
  Looking : AdapterAt
  -- it loads the pair's send record
  Recording : AdapterAt
  -- it reads the pair's next entry
  Reading : AdapterAt
  -- it publishes a completion, of the request that it took from the pair
  Publishing : (cq : ℕ) (completion : Cqe) → AdapterAt
  -- it loads the word of actors that ended
  Ending : AdapterAt

pub record AdapterRule : Type 0 where
  -- the number of the queue pair that is visited, or the first number behind all pairs
  pub visit : ℕ
  pub at_work : AdapterAt
  -- by queue pair, how many requests of its send queue were taken
  pub taken : ℕ → ℕ
  -- by queue pair, the device's side of its send queue
  pub readers : ℕ → WqReader
  -- by completion queue, the device's side of it
  pub queues : ℕ → QueueDevice

-- the side of the visited pair's send queue
abbrev pub reader : AdapterRule → WqReader
reader s = s.readers s.visit

-- a queue pair that is connected may send
abbrev pub may_send : Lines → ℕ → Bool
may_send d qp = works (start_pair d qp).state

-- the completion queue of a pair's send queue
abbrev pub send_cq : Lines → ℕ → ℕ
send_cq d qp = (start_pair d qp).send_cq

-- The pairs are visited by rising number, from the first on. Behind the last one the word of actors that ended is loaded.
abbrev pub first_work : Lines → ℕ → AdapterAt
first_work d qp = if is_among FIRST_QP (length d.qps) qp then Looking else Ending

abbrev pub visiting : Lines → ℕ → AdapterRule → AdapterRule
visiting d qp s = record s { visit = qp; at_work = first_work d qp }

abbrev pub next_visit : Lines → AdapterRule → AdapterRule
next_visit d s = visiting d (s.visit + 1) s

abbrev pub first_visit : Lines → AdapterRule → AdapterRule
first_visit d s = visiting d FIRST_QP s

abbrev pub working : AdapterAt → AdapterRule → AdapterRule
working work s = record s { at_work = work }

abbrev pub put_number : {V : Type 0} → (ℕ → V) → ℕ → V → ℕ → V
put_number f number value = put (λ (m n : ℕ). m == n) f number value

-- the visited pair's side has gone on
abbrev pub with_reader : WqReader → AdapterRule → AdapterRule
with_reader r s = record s { readers = put_number s.readers s.visit r }

-- one more of the visited pair's requests was taken
abbrev pub with_taken : AdapterRule → AdapterRule
with_taken s = record s { taken = put_number s.taken s.visit (s.taken s.visit + 1) }

-- a completion queue's side has gone on
abbrev pub with_queue : ℕ → QueueDevice → AdapterRule → AdapterRule
with_queue cq q s = record s { queues = put_number s.queues cq q }

-- it visits the first pair, and has seen nothing
abbrev pub fresh_adapter : Lines → AdapterRule
fresh_adapter d = record {
  visit = FIRST_QP;
  at_work = first_work d FIRST_QP;
  taken = λ qp. 0;
  readers = λ qp. requests.fresh_device (qp_line d qp).start;
  queues = λ cq. completions.fresh_device (cq_line d cq).start;
}
