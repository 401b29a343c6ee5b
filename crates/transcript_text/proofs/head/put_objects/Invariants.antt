-- The lines of the objects so far are in the text.
use Rattle.std.proofs.Common.{◌≡◌, ◌++◌, take}
use Rattle.std.specs.List.{flat_map}
use Rattle.scenario_text.specs.Heads.{object_text}
use Rattle.transcript_text.proofs.head.put_objects.Given as goal

abbrev pub invariant-loop-object : goal.invariant-loop-object
invariant-loop-object l = l.out ≡ l.fn.out ++ flat_map (object_text l.lines) (take l.object-index l.lines.order)
