use Rattle.std.proofs.Common.{ℕ, ap, ap₂, ◌∙◌, length, arith}
use Rattle.scenario_text.specs.Bounds as bounds
use Rattle.scenario_text.specs.Sofar.{Said, view_of}
use Rattle.scenario_text.specs.declared.fault.LimitName.TheVariants as limits
use Rattle.scenario_text.proofs.Events.{noted_none, noted_next, noted_all}
use Rattle.scenario_text.proofs.sofar.Sofar.note_events.Goals as goal

pub loop-eq-init : goal.loop-eq-init
loop-eq-init c = noted_none (view_of c.args.self.now)

pub loop-eq-preserved : goal.loop-eq-preserved
loop-eq-preserved c =
    noted_next (view_of c.args.self.now) (view_of c.loop-eq.self) (view_of c.note.new.self) c.loop-eq.eq c.index.result.now c.new.result c.loop-eq.invariant
    (omega (arith, c.loop-eq-test.true, c.len-eq-end.ensures, c.args.self.now.eqs.ok.0, ap (λ (s : Said). length s.lines.eqs) c.loop-eq.invariant.same))
    c.index.ensures
    (c.new.ensures ∙ ap₂ (λ (e s : ℕ). bounds.bound limits.Events e 0 s) c.events_on-events.ensures (c.size-most.ensures ∙ ap bounds.size_of c.from.ensures))
    c.note.ensures

pub returns : goal.returns
returns c = noted_all (view_of c.args.self.now) (view_of c.loop-eq.self) c.loop-eq.eq c.loop-eq.invariant (omega (arith, c.loop-eq-test.false, c.len-eq-end.ensures, c.args.self.now.eqs.ok.0))
