-- The title, the head, the entries and the last line make the text.
use Rattle.std.proofs.Common.{◌∷◌, [], codes, length}
use Rattle.std.specs.List.{flat_map}
use Rattle.std.proofs.lemmas.Result.{on_ok_weaker}
use Rattle.scenario_text.specs.Requests.{line}
use Rattle.scenario_text.specs.Heads.{head_text}
use Rattle.transcript_text.specs.History.{entry_text, end_text}
use Rattle.transcript_text.proofs.LineLemmas.{four_added}
use Rattle.transcript_text.proofs.history.put_history.Goals as goal

pub returns : goal.returns
returns c =
    let d = c.args.declared.now in
    let h = c.args.history.now in
    let title = line (codes "mlx5" ∷ codes "history" ∷ []) in
    let entries = rw c.lines.ensures.lines at c.in_ok-put_entries.ensures in
    on_ok_weaker c.put_end.result
    (four_added c.args.out.now c.put_bytes.new.self c.put_head.new.out c.put_entries.new.out c.put_end.new.out title (head_text d) (flat_map (entry_text d) h) (end_text (length h)) c.in_ok-put_bytes.ensures c.in_ok-put_head.ensures entries)
    c.put_end.ensures
