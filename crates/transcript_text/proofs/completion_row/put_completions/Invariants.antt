-- The completions so far are in the text.
use Rattle.std.proofs.Common.{◌≡◌, ◌++◌, map, take}
use Rattle.transcript_text.specs.Fields.{spaced}
use Rattle.transcript_text.specs.History.{completion_text}
use Rattle.transcript_text.proofs.completion_row.put_completions.Given as goal

abbrev pub invariant-loop-completion : goal.invariant-loop-completion
invariant-loop-completion l = l.out ≡ l.fn.out ++ spaced (map (completion_text l.lines) (take l.completion-index l.completions))
