use Rattle.device_engine.specs.View.{scan_of}
use Rattle.device_engine.proofs.Publications.{serves_queue, publishes_at, found_queue, publish_operates}
use Rattle.device_engine.proofs.scan.Scan.publish.Goals as goal

pub publish-requires-clause-port : goal.publish-requires-clause-port
publish-requires-clause-port g c =
    let v = scan_of c.args.self.now in
    let q = c.index_mut-queue.result.now in
    let at_it = publishes_at v c.args.cq c.requires.standing c.requires.work in
    serves_queue v.declared c.args.cq q (g.P.BusPort.port c.args.port.now) (at_it.scan_is.queues c.args.cq q (found_queue v c.args.cq q at_it.lives c.index_mut-queue.ensures.value)) c.requires.port

pub returns : goal.returns
returns g c =
    let v = scan_of c.args.self.now in
    let q = c.index_mut-queue.result.now in
    let at_it = publishes_at v c.args.cq c.requires.standing c.requires.work in
    let found = found_queue v c.args.cq q at_it.lives c.index_mut-queue.ensures.value in
    let made = c.publish.ensures in
    (made.0, made.1, publish_operates v c.args.cq at_it.kept q found at_it.work at_it.scan_is c.publish.new.queue c.publish.result made.0 made.2 at_it.visit)
