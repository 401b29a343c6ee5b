-- The words of the lines passed so far are set.
use Rattle.std.proofs.Common.{take}
use Rattle.std.specs.List.{flat_map}
use Rattle.actor_map.specs.Setting.{Sets}
use Rattle.actor_map.specs.Start.{cq_start}
use Rattle.actor_map.proofs.start.set_cqs.Given as goal

abbrev pub invariant-loop-line : goal.invariant-loop-line
invariant-loop-line l = Sets l.initial.bus l.bus l.initial.from (flat_map cq_start (take l.line-index l.lines)) l.next
