use Rattle.device_engine.specs.View.{scan_of}
use Rattle.device_engine.proofs.Beginning.{stands_began, rule_began}
use Rattle.device_engine.proofs.Publications.{found_queue}
use Rattle.device_engine.proofs.scan.Scan.begin_publish.Goals as goal

pub returns-clause-standing : goal.returns-clause-standing
returns-clause-standing c =
    let v = scan_of c.args.self.now in
    let q = c.index_mut-queue.result.now in
    stands_began v c.args.cq c.of.result c.args.completion q c.begin_publish.new.self (found_queue v c.args.cq q c.requires.can.lives c.index_mut-queue.ensures.value) c.requires.scan c.requires.visit c.of.ensures c.begin_publish.ensures

pub returns-clause-rule : goal.returns-clause-rule
returns-clause-rule c =
    let v = scan_of c.args.self.now in
    let q = c.index_mut-queue.result.now in
    rule_began v c.args.cq c.of.result c.args.completion q c.begin_publish.new.self (found_queue v c.args.cq q c.requires.can.lives c.index_mut-queue.ensures.value) c.requires.scan c.requires.visit c.of.ensures c.begin_publish.ensures
