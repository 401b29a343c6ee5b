-- The title, the operations and the last line make the text.
use Rattle.std.proofs.Common.{◌∷◌, [], codes, length, zip}
use Rattle.std.specs.List.{flat_map}
use Rattle.std.proofs.lemmas.Result.{on_ok_weaker}
use Rattle.scenario_text.specs.Requests.{line}
use Rattle.transcript_text.specs.History.{end_text}
use Rattle.transcript_text.specs.Trace.{operation_text}
use Rattle.transcript_text.proofs.LineLemmas.{three_added}
use Rattle.transcript_text.proofs.trace.put_trace.Goals as goal

pub returns : goal.returns
returns c =
    let trace = c.args.trace.now in
    let title = line (codes "mlx5" ∷ codes "trace" ∷ []) in
    let lines = flat_map (operation_text c.args.lines.now) (zip trace c.args.marks.now) in
    on_ok_weaker c.put_end.result
    (three_added c.args.out.now c.put_bytes.new.self c.put_operations.new.out c.put_end.new.out title lines (end_text (length trace)) c.in_ok-put_bytes.ensures c.in_ok-put_operations.ensures)
    c.put_end.ensures
