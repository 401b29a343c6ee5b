-- What holds of every visit of a queue pair.
use Rattle.std.specs.Prelude.{ℕ, ◌≡◌, ◌+◌, ◌≤◌, ◌⊎◌, Bool, true, false, if◌then◌else◌, List, [], ◌∷◌, fold}
use Rattle.bus_core.specs.declared.operation.BusEntry.{BusEntry}
use Rattle.verbs_types.specs.declared.declaration.Lines.{Lines}
use Rattle.device_engine.specs.Rows.{is_ready}
use Rattle.device_engine.specs.Rule.{after_adapt}
use Rattle.device_engine.specs.State.{AdapterAt, AdapterRule, Looking, Recording}

-- the operations of a visit from here on: all but the last leave the same pair visited, and the last goes on to the next
abbrev pub IsVisit : Lines → AdapterRule → List BusEntry → Type 0
IsVisit d s [] = ⊥
IsVisit d s (e ∷ []) = (after_adapt d s e).visit ≡ s.visit + 1
IsVisit d s (e ∷ next ∷ es) = ((after_adapt d s e).visit ≡ s.visit) × IsVisit d (after_adapt d s e) (next ∷ es)

abbrev pub is_look : AdapterAt → Bool
is_look Looking = true
is_look _ = false

abbrev pub is_record : AdapterAt → Bool
is_record Recording = true
is_record _ = false

-- how many of the operations are of a kind
abbrev pub count_of : (AdapterAt → Bool) → Lines → AdapterRule → List BusEntry → ℕ
count_of test d s [] = 0
count_of test d s (e ∷ es) = (if test s.at_work then 1 else 0) + count_of test d (after_adapt d s e) es

-- one request was taken
pub record Takes (s after : AdapterRule) : Type 0 where
  pub taken : after.taken s.visit ≡ s.taken s.visit + 1

-- none was taken, and none is ready, or the pair may not send
pub record FindsNone (d : Lines) (s after : AdapterRule) : Type 0 where
  pub taken : after.taken s.visit ≡ s.taken s.visit
  pub none : is_ready d s.visit (after.readers s.visit) ≡ false

pub record IsWholeVisit (d : Lines) (s : AdapterRule) (es : List BusEntry) : Type 0 where
  -- the register is loaded once, and the record at most once
  pub looks : count_of is_look d s es ≡ 1
  pub records : count_of is_record d s es ≤ 1
  -- one request is taken where one of a pair that may send is ready, and else none
  pub takes : Takes s (fold (after_adapt d) s es) ⊎ FindsNone d s (fold (after_adapt d) s es)

abbrev pub VisitsAreWhole : Type 0
VisitsAreWhole = (d : Lines) (s : AdapterRule) (es : List BusEntry) → s.at_work ≡ Looking → IsVisit d s es → IsWholeVisit d s es
