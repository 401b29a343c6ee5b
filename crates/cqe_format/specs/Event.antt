-- Events as bytes.
use Rattle.std.specs.Prelude.{ℕ, List}
use Rattle.prm_fields.specs.Bits.{field_value}
use Rattle.prm_fields.specs.Spelling.{IsBytesOf, Spells}
use Rattle.prm_fields.specs.declared.layout.LayoutName.{LayoutName}
use Rattle.prm_fields.specs.declared.layout.LayoutName.TheVariants.{EqeCq, EqeError}
use Rattle.prm_fields.specs.declared.layout.FieldName.{FieldName}
use Rattle.prm_fields.specs.declared.layout.FieldName.TheVariants.{TypeByte, Cqn, Owner}
use Rattle.verbs_types.specs.declared.completion.EventRecord.{EventRecord}
use Rattle.verbs_types.specs.declared.completion.EventRecord.TheVariants.{Completion, CqError}

-- the layout of an event, its type and the number of its completion queue
abbrev pub event_layout : EventRecord → LayoutName
event_layout (Completion cq) = EqeCq
event_layout (CqError cq) = EqeError

abbrev pub event_type : EventRecord → ℕ
event_type (Completion cq) = 0
event_type (CqError cq) = 4

abbrev pub event_cq : EventRecord → ℕ
event_cq (Completion cq) = cq
event_cq (CqError cq) = cq

-- what each field of its layout holds, with this owner bit
abbrev pub eqe_field : EventRecord → ℕ → FieldName → ℕ
eqe_field e owner TypeByte = event_type e
eqe_field e owner Cqn = event_cq e
eqe_field e owner Owner = owner
eqe_field e owner _ = 0

-- the 64 bytes spell the event, with either owner bit
pub record IsEqe (e : EventRecord) (bytes : List ℕ) : Type 0 where
  pub bytes_of : IsBytesOf (event_layout e) bytes
  pub fields : Spells (event_layout e) (eqe_field e (field_value bytes 511 1)) bytes

-- the bytes spell some event
abbrev pub IsSomeEqe : List ℕ → Type 0
IsSomeEqe bytes = (e : EventRecord) × IsEqe e bytes
