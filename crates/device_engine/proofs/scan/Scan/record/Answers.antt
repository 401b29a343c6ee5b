use Rattle.std.proofs.Common.{◌+◌}
use Rattle.verbs_types.specs.declared.declaration.TheConstants.{FIRST_QP}
use Rattle.device_engine.specs.declared.scan.Work.TheVariants as works
use Rattle.device_engine.specs.View.{scan_of}
use Rattle.device_engine.proofs.Looking.{can_look, record_operates}
use Rattle.device_engine.proofs.Visits.{scan_at, found_at, serves}
use Rattle.device_engine.proofs.scan.Scan.record.Goals as goal

pub record-requires-clause-look : goal.record-requires-clause-look
record-requires-clause-look g c =
    let v = scan_of c.args.self.now in
    let p = c.index_mut-pair.result.now in
    let found = found_at v works.Recording p c.requires.standing c.requires.work (λ there. there) c.index_mut-pair.ensures.value in
    can_look v p found (scan_at v works.Recording c.requires.standing c.requires.work) c.requires.low

pub record-requires-clause-port : goal.record-requires-clause-port
record-requires-clause-port g c =
    let v = scan_of c.args.self.now in
    let p = c.index_mut-pair.result.now in
    let found = found_at v works.Recording p c.requires.standing c.requires.work (λ there. there) c.index_mut-pair.ensures.value in
    serves v.declared (FIRST_QP + v.visit) p (g.P.BusPort.port c.args.port.now) (c.requires.standing.scan.pairs v.visit p found) c.requires.port

pub returns : goal.returns
returns g c =
    let v = scan_of c.args.self.now in
    let p = c.index_mut-pair.result.now in
    let made = c.record.ensures in
    let found = found_at v works.Recording p c.requires.standing c.requires.work (λ there. there) c.index_mut-pair.ensures.value in
    (made.0, made.1, record_operates v p made.0 found (scan_at v works.Recording c.requires.standing c.requires.work) c.record.new.self c.record.result made.2 c.requires.work)
