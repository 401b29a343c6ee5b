use Rattle.std.proofs.Common.{ℕ, ap, refl, List, length}
use Rattle.scenario_text.specs.AfterCalls as after
use Rattle.scenario_text.specs.Sofar.{Said, view_of}
use Rattle.scenario_text.specs.declared.sofar.QueueUse.{QueueUse}
use Rattle.scenario_text.proofs.Changes.{change_of, change_not}
use Rattle.scenario_text.proofs.sofar.Sofar.take_one.Goals as goal

abbrev with_uses : Said → List QueueUse → Said
with_uses s uses = record s { queues = uses }

pub returns-in-Some : goal.returns-in-Some
returns-in-Some c =
    let used = c.in-Some.used.now in
    let thread = length c.args.self.now.threads.items in
    ap (with_uses (view_of c.args.self.now))
    (change_of after.fuller c.args.self.now.queues.items c.deref.result.now c.args.cq c.args.cq used (record used { room = c.saturating_sub.result }) c.deref.ensures.value refl (ap (λ (n : ℕ). record used { room = n }) c.saturating_sub.ensures) c.in-Some.ensures.lookup.3.0 c.in-Some.ensures.lookup.3.1)

pub returns-in_default : goal.returns-in_default
returns-in_default c =
    let thread = length c.args.self.now.threads.items in
    ap (with_uses (view_of c.args.self.now)) (change_not after.fuller c.args.self.now.queues.items c.deref.result.now c.args.cq c.args.cq c.deref.ensures.value refl c.in_default.ensures.lookup.3)
