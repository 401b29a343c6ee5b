-- What it means that a call is not refused.
use Rattle.std.proofs.Common.{◌≡◌, refl, Bool, true, false, Option, Some, None}
use Rattle.std.specs.Option.{is_none, option_map}
use Rattle.hca_pages.specs.declared.fault.HcaFault.{HcaFault}
use Rattle.hca_pages.specs.Faults.{unless, or_then}

pub unless_none : (test : Bool) (fault : HcaFault) → is_none (unless test fault) ≡ true → test ≡ true
unless_none true fault h = refl
unless_none false fault h = absurd (cc)

pub or_then_none : (first next : Option HcaFault) → is_none (or_then first next) ≡ true → (is_none first ≡ true) × (is_none next ≡ true)
or_then_none None next h = (refl, h)
or_then_none (Some fault) next h = absurd (cc)

pub option_map_none : {X Y : Type 0} (f : X → Y) (o : Option X) → is_none (option_map f o) ≡ true → o ≡ None
option_map_none f None h = refl
option_map_none f (Some x) h = absurd (cc)
