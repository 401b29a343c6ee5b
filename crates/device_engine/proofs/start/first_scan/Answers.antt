use Rattle.std.proofs.Common.{sym, ap, ◌∙◌, refl, subst, length, IsTrue}
use Rattle.verbs_types.specs.declared.declaration.Lines.{Lines}
use Rattle.verbs_types.specs.Lines.{is_declared}
use Rattle.device_engine.specs.declared.scan.Work.TheVariants.{Ending}
use Rattle.device_engine.specs.First.{AreFirstPairs, AreFirstQueues}
use Rattle.device_engine.specs.State.{fresh_adapter}
use Rattle.device_engine.specs.View.{ScanView}
use Rattle.device_engine.proofs.Starting.{first_stands, first_rule}
use Rattle.device_engine.proofs.start.first_scan.Goals as goal

pub visit_pair-requires-clause-scan : goal.visit_pair-requires-clause-scan
visit_pair-requires-clause-scan c =
    let v : ScanView = record { declared = c.of.result.value; pairs = c.in_ok-first_pairs.field-0.items; queues = c.in_ok-first_queues.field-0.items; visit = 0; work = Ending } in
    let pairs = subst (λ (d : Lines). AreFirstPairs d (length d.qps) v.pairs) (sym c.of.ensures) c.in_ok-first_pairs.ensures in
    let queues = subst (λ (d : Lines). AreFirstQueues d (length d.cqs) v.queues) (sym c.of.ensures) c.in_ok-first_queues.ensures in
    first_stands v pairs queues (subst (λ (d : Lines). IsTrue (is_declared d)) (sym c.of.ensures) c.lines.ensures.declared) refl

pub returns-clause-fresh : goal.returns-clause-fresh
returns-clause-fresh c =
    let v : ScanView = record { declared = c.of.result.value; pairs = c.in_ok-first_pairs.field-0.items; queues = c.in_ok-first_queues.field-0.items; visit = 0; work = Ending } in
    let pairs = subst (λ (d : Lines). AreFirstPairs d (length d.qps) v.pairs) (sym c.of.ensures) c.in_ok-first_pairs.ensures in
    let queues = subst (λ (d : Lines). AreFirstQueues d (length d.cqs) v.queues) (sym c.of.ensures) c.in_ok-first_queues.ensures in
    record {
      declared = c.visit_pair.ensures.declared ∙ c.of.ensures;
      rule = c.visit_pair.ensures.rule ∙ (first_rule v pairs queues ∙ ap fresh_adapter c.of.ensures);
    }
