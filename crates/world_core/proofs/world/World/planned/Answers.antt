-- The plan is the scenario's.
use Rattle.std.proofs.Common.{◌∙◌, ◌≤◌, sym, ap, subst, List, length, slice_get}
use Rattle.std.specs.Prelude.{IfSome}
use Rattle.scenario_text.specs.declared.scenario.PlanItem.{PlanItem}
use Rattle.scenario_text.specs.Running.{items_of_plan}
use Rattle.world_core.specs.World.{WorldView}
use Rattle.world_core.proofs.Plans.{planned_some}
use Rattle.world_core.proofs.world.World.planned.Goals as goal

pub returns-in-Schedule-clause-item : goal.returns-in-Schedule-clause-item
returns-in-Schedule-clause-item c =
    let same = ap items_of_plan (sym c.in-Schedule.is ∙ c.self.invariant.plan_is) ∙ ap (λ (v : WorldView). items_of_plan v.parts.plan) c.self.view_is in
    c.item_at.ensures ∙ ap (λ (items : List PlanItem). slice_get items c.args.index) (c.as_slice.ensures ∙ same)

pub returns-in-Schedule-clause-actor : goal.returns-in-Schedule-clause-actor
returns-in-Schedule-clause-actor c =
    let s = c.self.inside.scenario.value in
    let there = c.item_at.ensures ∙ ap (λ (items : List PlanItem). slice_get items c.args.index) (c.as_slice.ensures ∙ ap items_of_plan (sym c.in-Schedule.is ∙ c.self.invariant.plan_is)) in
    subst (λ (v : WorldView). IfSome c.item_at.result (λ (i : PlanItem). i.actor ≤ length v.parts.programs)) c.self.view_is (planned_some s c.args.index c.item_at.result c.self.invariant.scenario there)
