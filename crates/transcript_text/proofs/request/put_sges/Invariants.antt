-- The entries so far are in the text.
use Rattle.std.proofs.Common.{◌≡◌, ◌++◌, map, take}
use Rattle.scenario_text.specs.Requests.{sge_text}
use Rattle.transcript_text.specs.Fields.{spaced}
use Rattle.transcript_text.proofs.request.put_sges.Given as goal

abbrev pub invariant-loop-sge : goal.invariant-loop-sge
invariant-loop-sge l = l.out ≡ l.fn.out ++ spaced (map sge_text (take l.sge-index l.sges))
