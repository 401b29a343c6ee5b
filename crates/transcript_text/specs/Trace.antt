-- The text of a trace of bus operations.
use Rattle.std.specs.Prelude.{ℕ, Bool, true, false, List, [], ◌∷◌, ◌++◌, codes, decimal, length, zip}
use Rattle.std.specs.List.{flat_map}
use Rattle.bus_core.specs.declared.operation.BusEntry.{BusEntry}
use Rattle.bus_core.specs.declared.operation.BusOp.{BusOp}
use Rattle.bus_core.specs.declared.operation.BusOp.TheVariants.{Load, Store, SetBits, Swap}
use Rattle.bus_core.specs.Operation.{loaded}
use Rattle.verbs_types.specs.declared.declaration.Lines.{Lines}
use Rattle.scenario_text.specs.Requests.{line, hex}
use Rattle.transcript_text.specs.Numbers.{IsActor}
use Rattle.transcript_text.specs.History.{actor_name, end_text}

-- an operation of a declared actor
abbrev pub IsOperation : Lines → BusEntry → Type 0
IsOperation d e = IsActor d e.actor

-- 16 hexadecimal digits
abbrev pub word_text : ℕ → List ℕ
word_text word = hex 16 word

-- an operation at an address that held this word: what was given stands before what was there
abbrev pub fields_at : ℕ → ℕ → BusOp → List (List ℕ)
fields_at addr old Load = codes "load" ∷ decimal addr ∷ word_text old ∷ []
fields_at addr old (Store value) = codes "store" ∷ decimal addr ∷ word_text value ∷ []
fields_at addr old (SetBits bits) = codes "or" ∷ decimal addr ∷ word_text bits ∷ word_text old ∷ []
fields_at addr old (Swap new) = codes "swap" ∷ decimal addr ∷ word_text new ∷ word_text old ∷ []

-- the old word is 0 where the entry has none
abbrev pub op_fields : BusEntry → List (List ℕ)
op_fields e = fields_at e.addr (loaded e) e.op

abbrev pub mark_fields : Bool → List (List ℕ)
mark_fields true = codes "*" ∷ []
mark_fields false = []

abbrev pub operation_fields : BusEntry → Bool → List (List ℕ)
operation_fields e marked = op_fields e ++ mark_fields marked

-- the actor, what it did, and an asterisk where that is marked
abbrev pub operation_text : Lines → BusEntry × Bool → List ℕ
operation_text d x = line (actor_name d x.0.actor ∷ operation_fields x.0 x.1)

-- a title, a line an operation, and their count
abbrev pub trace_text : Lines → List BusEntry → List Bool → List ℕ
trace_text d trace marks = line (codes "mlx5" ∷ codes "trace" ∷ []) ++ flat_map (operation_text d) (zip trace marks) ++ end_text (length trace)
