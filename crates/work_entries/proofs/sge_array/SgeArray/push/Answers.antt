use Rattle.std.proofs.Common.{◌<◌, length, ◌∙◌, arith, length-set, ap}
use Rattle.std.proofs.lemmas.List.{length-take-le}
use Rattle.work_entries.specs.SgeArrayInside.{no_sge}
use Rattle.work_entries.proofs.Fills.{filled_more}
use Rattle.work_entries.proofs.sge_array.SgeArray.push.Goals as goal

pub invariant_of-self : goal.invariant_of-self
invariant_of-self c =
    let seen = length-take-le c.self.inside.count c.self.inside.items (omega (arith, c.self.invariant.most, c.self.invariant.long)) in
    let place : c.self.inside.count < 8 = omega (arith, seen, ap length c.self.view_is, c.requires) in
    record {
      most = omega arith;
      long = length-set c.self.inside.items c.self.inside.count c.args.sge ∙ c.self.invariant.long;
      rest = filled_more 8 c.self.inside.count no_sge c.args.sge c.self.inside.items c.self.invariant.long place c.self.invariant.rest;
    }
