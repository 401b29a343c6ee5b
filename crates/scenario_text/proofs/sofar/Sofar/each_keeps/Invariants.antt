-- The fields that are left say whether all keep the rule.
use Rattle.std.proofs.Common.{◌≡◌, length}
use Rattle.std.specs.List.{list_all}
use Rattle.scenario_text.specs.Rules as rules
use Rattle.scenario_text.specs.Sofar.{view_of}
use Rattle.scenario_text.proofs.sofar.Sofar.each_keeps.Given as goal

abbrev pub invariant-loop-field : goal.invariant-loop-field
invariant-loop-field l = list_all (rules.keeps (view_of l.self) l.rule l.slot) l.fields.left ≡ list_all (rules.keeps (view_of l.self) l.rule l.slot) l.fn.fields.left

abbrev pub decreases-loop-field : goal.decreases-loop-field
decreases-loop-field l = length l.fields.left
