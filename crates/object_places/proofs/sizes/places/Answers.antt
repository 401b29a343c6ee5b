use Rattle.std.proofs.Common.{◌≤◌, ◌^◌, arith}
use Rattle.std.proofs.Math.Pow.{pow_mono}
use Rattle.object_places.proofs.sizes.places.Goals as goal

pub returns-clause-few : goal.returns-clause-few
returns-clause-few c = let few : 2 ^ c.args.log ≤ 2 ^ 12 = pow_mono c.requires in omega (arith, few)
