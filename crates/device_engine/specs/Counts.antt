-- How far the adapter's counts and indices have come.
use Rattle.std.specs.Prelude.{ℕ, ◌+◌, ◌^◌, ◌<◌, IsTrue}
use Rattle.bus_core.specs.declared.operation.BusEntry.{BusEntry}
use Rattle.verbs_types.specs.declared.declaration.Lines.{Lines}
use Rattle.verbs_types.specs.Lines.{is_declared}
use Rattle.owner_ring.specs.Producer.{next_index}
use Rattle.device_engine.specs.Rule.{after_adapt}
use Rattle.device_engine.specs.State.{AdapterRule, fresh_adapter}

-- all of them are below this number
pub record CountsBelow (most : ℕ) (s : AdapterRule) : Type 0 where
  pub requests : (qp : ℕ) → (s.readers qp).next < most
  pub taken : (qp : ℕ) → s.taken qp < most
  pub completions : (cq : ℕ) → next_index (s.queues cq).producer < most

-- They begin at most at 2 ^ 32, where a declaration may let them begin, and rise by at most four an operation. So a run of fewer than 2 ^ 58 operations keeps all of them below 2 ^ 61.
pub record CountsGrow : Type 0 where
  pub first : (d : Lines) → IsTrue (is_declared d) → CountsBelow (2 ^ 32 + 1) (fresh_adapter d)
  pub next : (d : Lines) (s : AdapterRule) (e : BusEntry) (most : ℕ) → CountsBelow most s → CountsBelow (most + 4) (after_adapt d s e)
