-- One more item of the plan.
use Rattle.std.proofs.Common.{◌≡◌, ◌<◌, ◌∙◌, sym, ap, arith, length, take}
use Rattle.std.specs.List.{flat_map}
use Rattle.scenario_text.specs.Running.{items_of_plan}
use Rattle.world_core.specs.World.{WorldView}
use Rattle.world_core.proofs.Plans.{item_turns, turns_fit, planned_more, planned_all, item_there}
use Rattle.world_core.proofs.world.World.run_items.Goals as goal
use Rattle.world_core.proofs.world.World.run_items.Goals.{in-Some, in_default}

pub turn_times-requires-clause-left : goal.turn_times-requires-clause-left
turn_times-requires-clause-left c =
    let plan = c.loop-index.self.parts.plan in
    let turns : length c.loop-index.self.turns ≡ length (flat_map item_turns (take c.loop-index.index (items_of_plan plan))) =
    ap (λ (v : WorldView). length v.turns) c.loop-index.invariant ∙ ap (λ (v : WorldView). length (flat_map item_turns (take c.loop-index.index (items_of_plan v.parts.plan)))) (sym c.loop-index.invariant) in
    omega (arith, turns, c.times.ensures, turns_fit (length c.loop-index.self.parts.lines.threads) plan c.loop-index.index c.in-Some.item (sym c.planned.ensures.item ∙ c.in-Some.is))

pub loop-index-preserved : goal.loop-index-preserved
loop-index-preserved c =
    let plan = c.loop-index.self.parts.plan in
    let long : length (items_of_plan plan) ≡ length (items_of_plan c.args.self.now.parts.plan) = ap (λ (v : WorldView). length (items_of_plan v.parts.plan)) c.loop-index.invariant in
    let low : c.loop-index.index < length (items_of_plan plan) = omega (arith, c.loop-index-test.true, c.planned_items-index-end.ensures, long) in
    elim c.match-planned.branch [
      | in-Some w ↦ w.self-is ∙ planned_more c.loop-index.self _ c.args.self.now.parts c.loop-index.index w.in-Some.item w.times.result c.loop-index.invariant (sym c.planned.ensures.item ∙ w.in-Some.is) w.times.ensures w.turn_times.ensures
      | in_default w ↦ absurd (item_there plan c.loop-index.index low (sym c.planned.ensures.item ∙ w.in_default.is))
    ]

pub returns : goal.returns
returns c = c.loop-index.invariant ∙ ap (λ ts. record { parts = c.args.self.now.parts; turns = ts }) (planned_all c.args.self.now.parts c.loop-index.index (omega (arith, c.planned_items-index-end.ensures)))
