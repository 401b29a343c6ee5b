-- How many operations the adapter makes between taking a request and publishing its completion.
use Rattle.std.specs.Prelude.{ℕ, ◌≡◌, ◌++◌, ◌≤◌, List, [], ◌∷◌, length, fold, Some}
use Rattle.bus_core.specs.Mark.{Marked}
use Rattle.verbs_types.specs.declared.declaration.Lines.{Lines}
use Rattle.cqe_format.specs.declared.completion.Cqe.{Cqe}
use Rattle.object_places.specs.Objects.{Mark}
use Rattle.device_engine.specs.State.{AdapterRule, fresh_adapter}
use Rattle.device_engine.specs.Event.{Fetched, Published}
use Rattle.device_engine.specs.Rule.{adapter_says}
use Rattle.actor_rules.specs.Roles.{next}
use Rattle.operation_bounds.specs.Stretch.{IsStretch}

-- how many operations the adapter may make between two entries of one request
abbrev pub adapter_operations : ℕ
adapter_operations = 96

-- the adapter after these first operations of its own
abbrev pub adapter_by : Lines → List (Marked Mark) → AdapterRule
adapter_by d ops = fold (next d 0) (fresh_adapter d) ops

-- An operation takes the request of this number, from 1, of the queue pair's send queue, and after `during` another one publishes its completion.
pub record IsServed (d : Lines) (before during : List (Marked Mark)) (takes publishes : Marked Mark) (qp number : ℕ) : Type 0 where
  pub taken : adapter_says d (adapter_by d before) takes.entry ≡ Some (Fetched qp number)
  pub cq : ℕ
  pub completion : Cqe
  pub index : ℕ
  pub pair : completion.qpn ≡ qp
  pub published : adapter_says d (adapter_by d (before ++ (takes ∷ during))) publishes.entry ≡ Some (Published cq completion number index)

abbrev pub AdapterGoesOn : Lines → List (Marked Mark) → Type 0
AdapterGoesOn d ops =
    (before during : List (Marked Mark)) (takes publishes : Marked Mark) (qp number : ℕ) → IsStretch ops before (takes ∷ (during ++ publishes ∷ [])) → IsServed d before during takes publishes qp number
    → length during ≤ adapter_operations
