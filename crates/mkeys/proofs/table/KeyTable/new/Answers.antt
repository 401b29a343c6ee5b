use Rattle.std.proofs.Common.{◌≡◌, Option, None, Some, replicate, refl, ap, ◌∙◌}
use Rattle.mkeys.specs.declared.region.KeyRegion.{KeyRegion}
use Rattle.mkeys.specs.declared.table.TheConstants.{PLACES}
use Rattle.mkeys.specs.TableInside.{keys_of}
use Rattle.mkeys.proofs.KeysOfPlaces.{keys_of-replicate}
use Rattle.mkeys.proofs.MarkedPlaces.{fresh}
use Rattle.mkeys.proofs.table.KeyTable.new.Goals as goal

-- what no `Some` can be
only_none : (Is : Option KeyRegion → Type 0) → ((region : KeyRegion) → Is (Some region) → ⊥) → (slot : Option KeyRegion) → Is slot → slot ≡ None
only_none Is never None is = refl
only_none Is never (Some region) is = absurd (never region is)

pub invariant_of-result : goal.invariant_of-result
invariant_of-result c =
    let items : c.in-Ok.places.items ≡ replicate PLACES None = c.in-Ok.ensures.items_if_clones_equal (only_none _ (λ region is. is)) in
    rw items (fresh c.new.result c.new.ensures)

pub returns-in-Ok : goal.returns-in-Ok
returns-in-Ok c =
    let items : c.in-Ok.places.items ≡ replicate PLACES None = c.in-Ok.ensures.items_if_clones_equal (only_none _ (λ region is. is)) in
    ap keys_of items ∙ keys_of-replicate PLACES
