use Rattle.std.proofs.Common.{◌≡◌, ◌+◌, ◌*◌, ◌/◌, ◌<◌, length, refl, ap, ◌∙◌, sym, arith}
use Rattle.std.specs.FinMap.{insert, len}
use Rattle.mkeys.specs.declared.region.KeyRegion.{KeyRegion}
use Rattle.mkeys.specs.declared.table.TheConstants.{PLACES}
use Rattle.mkeys.specs.TableInside.{keys_of}
use Rattle.mkeys.proofs.KeysOfPlaces.{keys_of-set_some}
use Rattle.mkeys.proofs.MarkedPlaces.{lowest, full, not_full}
use Rattle.mkeys.proofs.table.KeyTable.register.Goals as goal

pub returns-in_default-clause-no_free : goal.returns-in_default-clause-no_free
returns-in_default-clause-no_free c =
    (λ _. ap len (sym c.self.view_is) ∙ full c.self.inside.places.items c.self.inside.free c.self.invariant c.in_default.ensures, λ _. refl)

pub returns-clause-lowest : goal.returns-clause-lowest
returns-clause-lowest c =
    let index : (256 * c.in-Some.index + c.from.result) / 256 ≡ c.in-Some.index = omega arith in
    rw (index, ← c.self.view_is) (lowest c.self.inside.places.items c.self.inside.free c.in-Some.index c.self.invariant c.in-Some.ensures)

pub returns-clause-made : goal.returns-clause-made
returns-clause-made c =
    let index : (256 * c.in-Some.index + c.from.result) / 256 ≡ c.in-Some.index = omega arith in
    let region : KeyRegion = record { pd = c.args.pd; start = c.args.start; len = c.args.len; rights = c.args.rights; variant = c.args.variant } in
    let inside : c.in-Some.index < length c.self.inside.places.items = omega (arith, c.in-Some.ensures.inside, c.self.invariant.count) in
    rw index (keys_of-set_some c.self.inside.places.items c.in-Some.index region inside ∙ ap (λ keys. insert keys c.in-Some.index region) c.self.view_is)

pub returns-clause-no_free : goal.returns-clause-no_free
returns-clause-no_free c =
    let short = not_full c.self.inside.places.items c.self.inside.free c.in-Some.index c.self.invariant c.in-Some.ensures in
    (λ e. absurd (cc), λ e. absurd (let is : len (keys_of c.self.inside.places.items) ≡ PLACES = ap len c.self.view_is ∙ e in omega arith))
