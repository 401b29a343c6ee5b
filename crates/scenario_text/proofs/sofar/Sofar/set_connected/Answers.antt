use Rattle.std.proofs.Common.{◌-◌, ap, refl, List, length}
use Rattle.verbs_types.specs.declared.declaration.TheConstants.{FIRST_QP}
use Rattle.scenario_text.specs.AfterObjects as after
use Rattle.scenario_text.specs.Sofar.{Said, view_of}
use Rattle.scenario_text.specs.declared.sofar.PairUse.{PairUse}
use Rattle.scenario_text.proofs.Changes.{change_of, change_not}
use Rattle.scenario_text.proofs.sofar.Sofar.set_connected.Goals as goal

abbrev with_uses : Said → List PairUse → Said
with_uses s uses = record s { pairs = uses }

pub returns-in-Some : goal.returns-in-Some
returns-in-Some c =
    let used = c.in-Some.used.now in
    let thread = length c.args.self.now.threads.items in
    ap (with_uses (view_of c.args.self.now))
    (change_of after.connected c.args.self.now.pairs.items c.deref.result.now (c.args.qp - FIRST_QP) c.saturating_sub-index.result used (after.connected used) c.deref.ensures.value c.saturating_sub-index.ensures refl c.in-Some.ensures.lookup.3.0 c.in-Some.ensures.lookup.3.1)

pub returns-in_default : goal.returns-in_default
returns-in_default c =
    let thread = length c.args.self.now.threads.items in
    ap (with_uses (view_of c.args.self.now)) (change_not after.connected c.args.self.now.pairs.items c.deref.result.now (c.args.qp - FIRST_QP) c.saturating_sub-index.result c.deref.ensures.value c.saturating_sub-index.ensures c.in_default.ensures.lookup.3)
