-- The lines of the operations so far are in the text.
use Rattle.std.proofs.Common.{◌≡◌, ◌++◌, take, length, zip}
use Rattle.std.specs.List.{flat_map}
use Rattle.transcript_text.specs.Trace.{operation_text}
use Rattle.transcript_text.proofs.trace.put_operations.Given as goal

abbrev pub invariant-loop-entry : goal.invariant-loop-entry
invariant-loop-entry l = l.out ≡ l.fn.out ++ flat_map (operation_text l.lines) (take (length l.yielded) (zip l.trace l.marks))
