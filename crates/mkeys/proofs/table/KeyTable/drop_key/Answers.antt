use Rattle.std.proofs.Common.{◌≡◌, ◌/◌, Some, ap, ◌∙◌, arith}
use Rattle.std.specs.FinMap.{get, remove}
use Rattle.mkeys.specs.TableInside.{keys_of}
use Rattle.mkeys.proofs.KeysOfPlaces.{keys_of-set_none}
use Rattle.mkeys.proofs.MarkedPlaces.{lives_inside, written}
use Rattle.mkeys.proofs.table.KeyTable.drop_key.Goals as goal

pub index_mut-requires : goal.index_mut-requires
index_mut-requires c =
    let places = c.self.inside.places.items in
    let lives : get (keys_of places) (c.args.key / 256) ≡ Some c.in_ok-region.field-0 = ap (λ keys. get keys (c.args.key / 256)) c.self.view_is ∙ c.in_ok-region.ensures.found.index in
    let inside = lives_inside places (c.args.key / 256) c.in_ok-region.field-0 c.self.invariant.count lives in
    omega arith

pub give_back-requires : goal.give_back-requires
give_back-requires c =
    lives_inside c.self.inside.places.items (c.args.key / 256) c.in_ok-region.field-0 c.self.invariant.count (ap (λ keys. get keys (c.args.key / 256)) c.self.view_is ∙ c.in_ok-region.ensures.found.index)

pub invariant_of-self : goal.invariant_of-self
invariant_of-self c =
    let places = c.self.inside.places.items in
    let inside = lives_inside places (c.args.key / 256) c.in_ok-region.field-0 c.self.invariant.count (ap (λ keys. get keys (c.args.key / 256)) c.self.view_is ∙ c.in_ok-region.ensures.found.index) in
    written places c.self.inside.free c.give_back.new.self (c.args.key / 256) _ inside c.self.invariant c.give_back.ensures

pub returns-clause-dropped : goal.returns-clause-dropped
returns-clause-dropped c =
    let places = c.self.inside.places.items in
    let inside = lives_inside places (c.args.key / 256) c.in_ok-region.field-0 c.self.invariant.count (ap (λ keys. get keys (c.args.key / 256)) c.self.view_is ∙ c.in_ok-region.ensures.found.index) in
    keys_of-set_none places (c.args.key / 256) (omega (arith, c.self.invariant.count)) ∙ ap (λ keys. remove keys (c.args.key / 256)) c.self.view_is
