-- The actor, what the entry says, and the line's end make the line.
use Rattle.std.proofs.Common.{ap, ◌++◌, ◌∙◌}
use Rattle.std.proofs.lemmas.Result.{on_ok_weaker}
use Rattle.transcript_text.specs.History.{actor_name, what_fields}
use Rattle.transcript_text.proofs.LineLemmas.{line_added}
use Rattle.transcript_text.proofs.history.put_entry.Goals as goal

pub returns : goal.returns
returns c =
    let old = c.args.out.now in
    let name = actor_name c.args.lines.now c.args.entry.now.actor in
    let fields = what_fields c.args.lines.now c.args.entry.now.what in
    on_ok_weaker c.end_line.result
    (line_added old c.put_bytes.new.self c.put_what.new.out c.end_line.new.self name fields (c.in_ok-put_bytes.ensures ∙ ap (λ t. old ++ t) c.actor_name.ensures) c.in_ok-put_what.ensures)
    c.end_line.ensures
