use Rattle.std.proofs.Common.{◌+◌}
use Rattle.verbs_types.specs.declared.declaration.TheConstants.{FIRST_QP}
use Rattle.device_engine.specs.declared.scan.Work.TheVariants as works
use Rattle.device_engine.specs.View.{scan_of}
use Rattle.device_engine.proofs.Reading.{can_read, read_operates}
use Rattle.device_engine.proofs.Visits.{scan_at, found_at, serves}
use Rattle.device_engine.proofs.scan.Scan.read.Goals as goal

pub read-requires-clause-read : goal.read-requires-clause-read
read-requires-clause-read g c =
    let v = scan_of c.args.self.now in
    let p = c.index_mut-pair.result.now in
    let found = found_at v works.Reading p c.requires.standing c.requires.work (λ there. there) c.index_mut-pair.ensures.value in
    can_read v p found (scan_at v works.Reading c.requires.standing c.requires.work) c.requires.low

pub read-requires-clause-port : goal.read-requires-clause-port
read-requires-clause-port g c =
    let v = scan_of c.args.self.now in
    let p = c.index_mut-pair.result.now in
    let found = found_at v works.Reading p c.requires.standing c.requires.work (λ there. there) c.index_mut-pair.ensures.value in
    serves v.declared (FIRST_QP + v.visit) p (g.P.BusPort.port c.args.port.now) (c.requires.standing.scan.pairs v.visit p found) c.requires.port

pub returns : goal.returns
returns g c =
    let v = scan_of c.args.self.now in
    let p = c.index_mut-pair.result.now in
    let made = c.read.ensures in
    let found = found_at v works.Reading p c.requires.standing c.requires.work (λ there. there) c.index_mut-pair.ensures.value in
    (made.0, made.1, read_operates v p made.0 found (scan_at v works.Reading c.requires.standing c.requires.work) c.requires.low c.read.new.self c.read.result made.2 c.requires.work)
