-- The operations are a run, whose history is legal, and so the one that the notes tell.
use Rattle.std.proofs.Common.{◌∙◌, sym, subst, List}
use Rattle.actor_rules.specs.Run.{IsWoven}
use Rattle.noted_history.specs.declared.log.Noted.{Noted}
use Rattle.noted_history.specs.OfNotes.{HasNotes}
use Rattle.verbs_model.specs.Tables.{state_of}
use Rattle.world_core.specs.declared.outcome.Outcome.{Outcome}
use Rattle.world_core.specs.Outcome.{IsOutcome}
use Rattle.world_core.specs.RunInside.{run_view}
use Rattle.world_core.specs.World.{WorldView}
use Rattle.operation_bounds.specs.Run.{IsBoundedRun}
use Rattle.marked_stores.specs.Stores.{SayEntries}
use Rattle.world_core.proofs.Finishing.{by_law, tale, told, outcome_is}
use Rattle.world_core.proofs.world.World.finish.Goals as goal

pub history_of-requires : goal.history_of-requires
history_of-requires c =
    let s = c.self.inside.scenario.value in
    let v = run_view c.self.inside.run in
    let h = c.self.invariant.holds in
    let consistent = c.into_trace-trace.ensures.consistent in
    let legal = by_law s v h consistent IsWoven c.woven.ensures c.ready.ensures c.self.invariant.scenario in
    record {
      told = (
        tale s v h consistent,
        subst (λ (notes : List Noted). HasNotes (state_of c.self.inside.first) c.as_slice.result.now notes (tale s v h consistent)) (sym c.notes.ensures)
            (told s v h consistent legal (state_of c.self.inside.first) c.as_slice.result.now c.self.invariant.first_is (c.as_slice.ensures.value ∙ c.self.invariant.programs_are)),
      );
    }

pub returns : goal.returns
returns c =
    let s = c.self.inside.scenario.value in
    let v = run_view c.self.inside.run in
    let h = c.self.invariant.holds in
    let consistent = c.into_trace-trace.ensures.consistent in
    let legal = by_law s v h consistent IsWoven c.woven.ensures c.ready.ensures c.self.invariant.scenario in
    let told_here : HasNotes (state_of c.self.inside.first) c.as_slice.result.now c.notes.result.now (tale s v h consistent) =
    subst (λ (notes : List Noted). HasNotes (state_of c.self.inside.first) c.as_slice.result.now notes (tale s v h consistent)) (sym c.notes.ensures)
    (told s v h consistent legal (state_of c.self.inside.first) c.as_slice.result.now c.self.invariant.first_is (c.as_slice.ensures.value ∙ c.self.invariant.programs_are)) in
    let o : Outcome = record { trace = c.into_trace-trace.result; marks = c.into_marks.result; history = c.from_vec.result } in
    subst (λ (w : WorldView). IsOutcome w.parts w.turns o) c.self.view_is
    (outcome_is s v h consistent legal o (by_law s v h consistent IsBoundedRun c.run_is_bounded.ensures c.ready.ensures c.self.invariant.scenario)
    (by_law s v h consistent SayEntries c.stores_are_told.ensures c.ready.ensures c.self.invariant.scenario) c.into_trace-trace.ensures.trace c.into_marks.ensures
    (c.from_vec.ensures ∙ c.in_ok-history.ensures.told (tale s v h consistent) told_here))
