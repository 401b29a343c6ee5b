use Rattle.std.proofs.Common.{◌≡◌, Option, None, Some, refl, ap, sym, ◌∙◌, arith, unwrap_or, get_or}
use Rattle.std.specs.Option.{option_copied, option_flatten}
use Rattle.std.specs.FinMap.{get}
use Rattle.mkeys.specs.declared.region.KeyRegion.{KeyRegion}
use Rattle.mkeys.proofs.KeysOfPlaces.{get-keys_of}
use Rattle.mkeys.proofs.table.KeyTable.at.Goals as goal

-- a place that is not there has no region
flat : (slot : Option (Option KeyRegion)) → option_flatten slot ≡ unwrap_or slot None
flat None = refl
flat (Some region) = refl

pub returns : goal.returns
returns c =
    c.flatten.ensures
    ∙ (ap option_flatten c.copied.ensures
    ∙ (flat (option_copied c.get.result)
    ∙ (c.get.ensures.lookup.4 (omega arith) None
    ∙ (ap (λ xs. get_or xs c.args.index None) c.deref.ensures.value
    ∙ (sym (get-keys_of c.self.inside.places.items c.args.index)
    ∙ ap (λ keys. get keys c.args.index) c.self.view_is)))))
