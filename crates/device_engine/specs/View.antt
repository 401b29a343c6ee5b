-- The adapter's machine, seen as its rule's state.
use Rattle.std.specs.Prelude.{ℕ, ◌+◌, List}
use Rattle.verbs_types.specs.declared.declaration.Lines.{Lines}
use Rattle.verbs_types.specs.declared.declaration.TheConstants.{FIRST_QP}
use Rattle.verbs_rules.specs.Start.{for_line}
use Rattle.cq_pair.specs.DeviceView as queue
use Rattle.device_engine.specs.declared.pair.Pair.{Pair}
use Rattle.device_engine.specs.declared.scan.Work.{Work}
use Rattle.device_engine.specs.declared.scan.Work.TheVariants as works
use Rattle.device_engine.specs.declared.scan.Scan.{Scan}
use Rattle.device_engine.specs.State.{AdapterAt, AdapterRule, Looking, Recording, Reading, Publishing, Ending, fresh_adapter}

-- the lists that the machine keeps: queue pairs and completion queues in the order of their numbers
pub record ScanView : Type 0 where
  pub declared : Lines
  pub pairs : List Pair
  pub queues : List queue.DeviceView
  -- the place of the pair that is visited, or how many there are
  pub visit : ℕ
  pub work : Work

abbrev pub scan_of : Scan → ScanView
scan_of s = record { declared = s.declared.value; pairs = s.pairs.items; queues = s.queues.items; visit = s.visit; work = s.work }

abbrev pub at_of : Work → AdapterAt
at_of works.Looking = Looking
at_of works.Recording = Recording
at_of works.Reading = Reading
at_of (works.Publishing cq completion) = Publishing cq completion.value
at_of works.Ending = Ending

-- a value by number, of those that a list has from this number on
abbrev pub by_number : {X V : Type 0} → ℕ → List X → (X → V) → (ℕ → V) → ℕ → V
by_number first list value other number = for_line first list value (other number) number

-- the state of the adapter's rule
abbrev pub rule_of : ScanView → AdapterRule
rule_of v = record {
  visit = FIRST_QP + v.visit;
  at_work = at_of v.work;
  taken = by_number FIRST_QP v.pairs (λ p. p.taken) (fresh_adapter v.declared).taken;
  readers = by_number FIRST_QP v.pairs (λ p. p.requests.side) (fresh_adapter v.declared).readers;
  queues = by_number 0 v.queues (λ q. q.side) (fresh_adapter v.declared).queues;
}
