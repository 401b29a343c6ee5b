use Rattle.std.proofs.Common.{◌≡◌, ◌<◌, ℕ, List, length, get_or, ap, subst, sym, arith}
use Rattle.bus_core.specs.Plain.{Plain}
use Rattle.actor_map.specs.Setting.{CanSet, Sets}
use Rattle.actor_map.specs.Start.{eq_start}
use Rattle.actor_map.proofs.Setting.{can_set_next, sets_next}
use Rattle.actor_map.proofs.start.set_eqs.Goals as goal

pub set_eq-next-requires-clause-room : goal.set_eq-next-requires-clause-room
set_eq-next-requires-clause-room c =
    let lines = c.args.lines.now in
    let size : eq_start c.line-item.result ≡ eq_start (get_or lines c.loop-line.line-index c.line-item.result) = ap eq_start c.line-item.is in
    subst (λ (l : List ℕ). CanSet c.loop-line.bus c.loop-line.next (length l)) (sym size)
    (can_set_next eq_start lines c.loop-line.line-index c.line-item.result c.loop-line-test.true c.args.bus.now c.loop-line.bus c.args.from c.loop-line.next c.loop-line.invariant c.requires.room)

pub loop-line-preserved : goal.loop-line-preserved
loop-line-preserved c =
    let lines = c.args.lines.now in
    sets_next eq_start lines c.loop-line.line-index c.line-item.result c.loop-line-test.true c.args.bus.now c.loop-line.bus c.set_eq-next.new.bus c.args.from c.loop-line.next c.set_eq-next.result c.loop-line.invariant
    (subst (λ (l : List ℕ). Sets c.loop-line.bus c.set_eq-next.new.bus c.loop-line.next l c.set_eq-next.result) (ap eq_start c.line-item.is) c.set_eq-next.ensures)
