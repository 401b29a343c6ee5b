use Rattle.std.proofs.Common.{subst}
use Rattle.device_engine.specs.declared.scan.Work.TheVariants as works
use Rattle.device_engine.specs.declared.outcome.NextWork.{NextWork}
use Rattle.device_engine.specs.Scan.{CanGo, Idle, IsScan, task_before}
use Rattle.device_engine.specs.View.{scan_of}
use Rattle.device_engine.proofs.Kept.{rework}
use Rattle.device_engine.proofs.scan.Scan.go.Goals as goal

pub returns-in-Record-clause-standing : goal.returns-in-Record-clause-standing
returns-in-Record-clause-standing c =
    let v = scan_of c.args.self.now in
    record {
      scan = rework v works.Recording Idle (subst (λ (x : NextWork). IsScan v (task_before x v)) c.in-Record.is c.requires.scan);
      there = subst (CanGo v) c.in-Record.is c.requires.can;
    }
