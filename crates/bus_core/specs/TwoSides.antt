-- An object of bus words with two sides, a device and a host, each with a rule over its own operations.
use Rattle.std.specs.Prelude.{ℕ, ◌≡◌, List, Bool, true, false, Option, None, if◌then◌else◌, filter, map}
use Rattle.std.specs.List.{AllByRecursion}
use Rattle.bus_core.specs.declared.operation.BusEntry.{BusEntry}
use Rattle.bus_core.specs.declared.operation.BusOp.TheVariants.{Load}
use Rattle.bus_core.specs.Follow.{Follows}
use Rattle.bus_core.specs.Trace.{Memory, IsConsistent}
use Rattle.bus_core.specs.Weave.{spelled}

pub data Party : Type 0 where
  Device : Party
  Host : Party
  Bystander : Party

abbrev pub is_party : Party → Party → Bool
is_party Device Device = true
is_party Device Host = false
is_party Device Bystander = false
is_party Host Device = false
is_party Host Host = true
is_party Host Bystander = false
is_party Bystander Device = false
is_party Bystander Host = false
is_party Bystander Bystander = true

-- X is an operation with its mark, D and H what the sides know, L what the object stands for, E what a marked operation says
pub record Object (X D H L E : Type 0) : Type 1 where
  pub entry : X → BusEntry
  -- for which side it was made
  pub role : X → Party
  -- whether an address is the object's
  pub touches : ℕ → Bool
  pub may_device : D → X → Type 0
  pub after_device : D → X → D
  pub device_says : D → X → Option E
  pub may_host : H → X → Type 0
  pub after_host : H → X → H
  pub host_says : H → X → Option E
  -- the step relation
  pub may : L → E → Type 0
  pub after : L → E → L

pub record Sides (D H : Type 0) : Type 0 where
  pub device : D
  pub host : H

module _ {X D H L E : Type 0} where
  -- a side's operations are those on the object's words that were made for it
  abbrev pub party : Object X D H L E → X → Party
  party o x = if o.touches (o.entry x).addr then o.role x else Bystander

  abbrev pub side : Object X D H L E → Party → List X → List X
  side o p trace = filter (λ x. is_party (party o x) p) trace

  -- whoever is no side writes none of the object's words
  abbrev pub IsHarmless : Object X D H L E → X → Type 0
  IsHarmless o x = o.touches (o.entry x).addr ≡ true → o.role x ≡ Bystander → (o.entry x).op ≡ Load

  -- a consistent trace whose sides keep their rules, each over its own operations, and nobody else writes the words
  pub record IsRunOf (o : Object X D H L E) (d : D) (h : H) (start : Memory) (trace : List X) : Type 0 where
    pub consistent : IsConsistent start (map o.entry trace)
    pub device : Follows o.may_device o.after_device d (side o Device trace)
    pub host : Follows o.may_host o.after_host h (side o Host trace)
    pub others : AllByRecursion (IsHarmless o) trace

  abbrev pub may_by : Object X D H L E → Party → Sides D H → X → Type 0
  may_by o Device s x = o.may_device s.device x
  may_by o Host s x = o.may_host s.host x
  may_by o Bystander s x = IsHarmless o x

  abbrev pub after_by : Object X D H L E → Party → Sides D H → X → Sides D H
  after_by o Device s x = record { device = o.after_device s.device x; host = s.host }
  after_by o Host s x = record { device = s.device; host = o.after_host s.host x }
  after_by o Bystander s x = s

  abbrev pub says_by : Object X D H L E → Party → Sides D H → X → Option E
  says_by o Device s x = o.device_says s.device x
  says_by o Host s x = o.host_says s.host x
  says_by o Bystander s x = None

  -- the rule of whoever makes the operation, the sides after it, and what it says
  abbrev pub MayAny : Object X D H L E → Sides D H → X → Type 0
  MayAny o s x = may_by o (party o x) s x

  abbrev pub after_any : Object X D H L E → Sides D H → X → Sides D H
  after_any o s x = after_by o (party o x) s x

  abbrev pub any_says : Object X D H L E → Sides D H → X → Option E
  any_says o s x = says_by o (party o x) s x

  -- what the marked operations of a trace say, in order
  abbrev pub history : Object X D H L E → D → H → List X → List E
  history o d h trace = spelled (after_any o) (any_says o) (record { device = d; host = h }) trace

  abbrev pub IsLegal : Object X D H L E → L → List E → Type 0
  IsLegal o l events = Follows o.may o.after l events
