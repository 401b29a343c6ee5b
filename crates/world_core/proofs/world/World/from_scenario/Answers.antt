-- The parts are the scenario's, and the run is at its beginning.
use Rattle.std.proofs.Common.{◌∙◌, sym, ap, subst}
use Rattle.scenario_text.specs.declared.scenario.ScenarioParts.{ScenarioParts}
use Rattle.verbs_rules.specs.Start.{start}
use Rattle.verbs_model.specs.Tables.{state_of}
use Rattle.world_core.specs.RunInside.{run_view}
use Rattle.world_core.specs.WorldInside.{IsWorldOf}
use Rattle.world_core.proofs.Starting.{first_holds}
use Rattle.world_core.proofs.world.World.from_scenario.Goals as goal

pub invariant_of-result : goal.invariant_of-result
invariant_of-result c =
    let s = c.args.scenario.now in
    subst (λ (parts : ScenarioParts). IsWorldOf parts c.in_ok-programs.programs.items c.in_ok-plan.plan (state_of c.in_ok-first.first) (run_view c.in_ok-run.run')) (sym c.of.ensures) (record {
      scenario = c.programs.ensures.scenario;
      programs_are = c.in_ok-programs.ensures ∙ c.programs.ensures.programs;
      plan_is = c.in_ok-plan.ensures ∙ c.plan.ensures.plan;
      first_is = c.in_ok-first.ensures ∙ ap start c.declared.ensures.lines;
      holds = first_holds s (run_view c.in_ok-run.run') c.programs.ensures.scenario c.counts_grow.ensures c.in_ok-run.ensures;
    })
