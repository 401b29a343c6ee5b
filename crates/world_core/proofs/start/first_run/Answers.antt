-- The scenario is ready, and all that it needs is new.
use Rattle.std.proofs.Common.{◌≡◌, ◌≤◌, ◌^◌, ◌∙◌, sym, ap, subst, arith, ℕ, List, length}
use Rattle.verbs_types.specs.declared.call.Call.{Call}
use Rattle.verbs_types.specs.declared.declaration.Lines.{Lines}
use Rattle.actor_map.specs.Sizes.{words_of}
use Rattle.device_engine.specs.First as device
use Rattle.scenario_text.specs.declared.scenario.Plan.{Plan}
use Rattle.scenario_text.specs.Limits.{turn_count}
use Rattle.world_core.specs.Log.{LogView}
use Rattle.world_core.specs.Start.{AreFresh, CanStart, IsFirstBus}
use Rattle.world_core.proofs.start.first_run.Goals as goal

pub new-requires-clause-fits : goal.new-requires-clause-fits
new-requires-clause-fits c =
    subst (λ (d : Lines). words_of d ≤ 2 ^ 20) (sym c.declared-declared.ensures.lines) (c.ready.ensures c.args.scenario.now c.declared-declared.ensures.scenario).words

pub threads_of-requires-clause-fits : goal.threads_of-requires-clause-fits
threads_of-requires-clause-fits c =
    subst (λ (d : Lines). words_of d ≤ 2 ^ 20) (sym c.declared-declared.ensures.lines) (c.ready.ensures c.args.scenario.now c.declared-declared.ensures.scenario).words

pub threads_of-requires-clause-run : goal.threads_of-requires-clause-run
threads_of-requires-clause-run c =
    subst (λ (d : Lines). CanStart d c.programs-2.result.now) (sym c.declared-declared.ensures.lines)
    (subst (λ (ps : List (List Call)). CanStart c.args.scenario.now.lines ps) (sym c.programs-2.ensures.programs) (c.ready.ensures c.args.scenario.now c.declared-declared.ensures.scenario).threads)

pub returns : goal.returns
returns c =
    let s = c.args.scenario.now in
    let lines = c.declared-declared.ensures.lines in
    let threads : length c.programs.result.now ≡ length s.lines.threads = ap (λ (ps : List (List Call)). length ps) c.programs.ensures.programs ∙ c.declared-declared.ensures.scenario.paired in
    let turns : c.turns_of-turns.result ≡ turn_count (length s.lines.threads) s.plan =
    c.turns_of-turns.ensures ∙ ap (λ (n : ℕ). turn_count n c.plan.result.now) threads ∙ ap (λ (p : Plan). turn_count (length s.lines.threads) p) c.plan.ensures.plan in
    record {
      bus = subst (λ (d : Lines). IsFirstBus d (turn_count (length s.lines.threads) s.plan) c.in_ok-first_bus.field-0) lines
          (subst (λ (n : ℕ). IsFirstBus c.declared-declared.result.now n c.in_ok-first_bus.field-0) turns c.in_ok-first_bus.ensures);
      adapter = subst (λ (d : Lines). device.IsFresh d c.in_ok-new.field-0) lines c.in_ok-new.ensures;
      threads = subst (λ (d : Lines). AreFresh d s.programs c.in_ok-threads_of.field-0.items) lines
          (subst (λ (ps : List (List Call)). AreFresh c.declared-declared.result.now ps c.in_ok-threads_of.field-0.items) c.programs-2.ensures.programs c.in_ok-threads_of.ensures);
      turns = ap (λ (log : LogView). log.turns) c.in_ok-new-2.ensures;
      marks = ap (λ (log : LogView). log.marks) c.in_ok-new-2.ensures;
      notes = ap (λ (log : LogView). log.notes) c.in_ok-new-2.ensures;
      capacity = omega (arith, turns, ap (λ (log : LogView). log.capacity) c.in_ok-new-2.ensures);
    }
