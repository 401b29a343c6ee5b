-- The lines of the connections so far are in the text.
use Rattle.std.proofs.Common.{◌≡◌, ◌++◌, take}
use Rattle.std.specs.List.{flat_map}
use Rattle.scenario_text.specs.Heads.{connect_text}
use Rattle.transcript_text.proofs.head.put_connects.Given as goal

abbrev pub invariant-loop-connect : goal.invariant-loop-connect
invariant-loop-connect l = l.out ≡ l.fn.out ++ flat_map (connect_text l.lines) (take l.connect-index l.lines.connects)
