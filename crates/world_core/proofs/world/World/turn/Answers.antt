-- The run has what a turn asks, and holds after it.
use Rattle.std.proofs.Common.{◌<◌, ◌≤◌, ◌∙◌, sym, ap, subst, ℕ, List, [], ◌∷◌, ◌++◌, length}
use Rattle.scenario_text.specs.Limits.{turn_count}
use Rattle.world_core.specs.RunInside.{run_view}
use Rattle.world_core.specs.World.{WorldView}
use Rattle.world_core.proofs.Ready.{can_turn}
use Rattle.world_core.proofs.Worlds.{turn_holds, one_turn}
use Rattle.world_core.proofs.world.World.turn.Goals as goal

pub turn-requires : goal.turn-requires
turn-requires c =
    let made : length c.self.inside.run.log.turns < turn_count (length c.self.inside.scenario.value.lines.threads) c.self.inside.scenario.value.plan =
    subst (λ (v : WorldView). length v.turns < turn_count (length v.parts.lines.threads) v.parts.plan) (sym c.self.view_is) c.requires.left in
    let among = subst (λ (v : WorldView). c.args.actor ≤ length v.parts.programs) (sym c.self.view_is) c.requires.actor in
    can_turn c.self.inside.scenario.value (run_view c.self.inside.run) c.self.invariant.scenario c.self.invariant.holds made c.args.actor among

pub invariant_of-self : goal.invariant_of-self
invariant_of-self c = record {
  scenario = c.self.invariant.scenario;
  programs_are = c.self.invariant.programs_are;
  plan_is = c.self.invariant.plan_is;
  first_is = c.self.invariant.first_is;
  holds = turn_holds c.self.inside.scenario.value (run_view c.self.inside.run) (run_view c.turn.new.self) c.args.actor c.counts_grow.ensures c.self.invariant.holds c.turn.ensures;
}

pub returns : goal.returns
returns c =
    ap (λ (actors : List ℕ). record { parts = c.self.inside.scenario.value; turns = actors }) (one_turn (run_view c.self.inside.run) (run_view c.turn.new.self) c.args.actor c.turn.ensures)
    ∙ ap (λ (v : WorldView). record { parts = v.parts; turns = v.turns ++ c.args.actor ∷ [] }) c.self.view_is
