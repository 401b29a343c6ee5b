-- A line of the plan keeps what holds.
use Rattle.std.proofs.Common.{◌≤◌, length, map, drop, IsTrue, arith}
use Rattle.std.specs.List.{list_all}
use Rattle.std.proofs.lemmas.List.Elements.{All-nil, All-map, All-weaker}
use Rattle.std.proofs.lemmas.List.Sums.{AllPass-from_list_all}
use Rattle.scenario_text.specs.After.{plan_item, add_schedule, add_rounds}
use Rattle.scenario_text.specs.Rules.{is_known}
use Rattle.scenario_text.specs.Uses.{named}
use Rattle.scenario_text.specs.Running.{IsActorOf}
use Rattle.scenario_text.specs.Slots.{actor_part}
use Rattle.scenario_text.specs.Sofar.{Said}
use Rattle.scenario_text.specs.Text.{Field, Line, number_at}
use Rattle.scenario_text.specs.declared.scenario.Plan.{Plan}
use Rattle.scenario_text.specs.declared.scenario.Plan.TheVariants as plans
use Rattle.scenario_text.specs.declared.slot.Kind.TheVariants as kinds
use Rattle.scenario_text.specs.declared.slot.Slot.TheVariants.{Turns}
use Rattle.scenario_text.proofs.Meanings.{number_there}
use Rattle.scenario_text.proofs.Standing.{IsPlanned, Stands}

planned_stands : (s : Said) (plan : Plan) → IsPlanned s.lines plan → Stands s → Stands (record s { plan = plan })
planned_stands s plan planned h = record {
  declared = h.declared;
  named = h.named;
  pairs = h.pairs;
  queues = h.queues;
  finished = h.finished;
  opened = h.opened;
  paired = h.paired;
  held = h.held;
  filled = h.filled;
  planned = planned;
  early = h.early;
}

pub schedule_stands : (line : Line) (s : Said) → IsTrue (list_all (is_known s Turns) (drop 1 line)) → Stands s → Stands (add_schedule line s)
schedule_stands line s known h =
    planned_stands s (plans.Schedule (map (plan_item s) (drop 1 line)))
    (All-map (IsActorOf (length s.lines.threads)) (plan_item s) (drop 1 line)
    (All-weaker (λ f. IsTrue (is_known s Turns f)) (λ f. IsActorOf (length s.lines.threads) (plan_item s f)) actor (drop 1 line) (AllPass-from_list_all (is_known s Turns) (drop 1 line) known))) h
  where
    actor : (f : Field) → IsTrue (is_known s Turns f) → IsActorOf (length s.lines.threads) (plan_item s f)
    actor f is =
        let there : named s kinds.Actor (actor_part f) ≤ length s.lines.threads = number_there s.lines kinds.Actor (actor_part f) s.names h.named is in
        omega (arith, there)

pub rounds_stands : (line : Line) (s : Said) → Stands s → Stands (add_rounds line s)
rounds_stands line s h = planned_stands s (plans.Rounds (number_at line 1)) (All-nil (IsActorOf (length s.lines.threads))) h
