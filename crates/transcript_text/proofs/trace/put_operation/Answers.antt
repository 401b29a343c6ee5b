-- The name, what was done, and the line's end make the line.
use Rattle.std.proofs.Common.{◌++◌, ◌∙◌, ap}
use Rattle.std.proofs.lemmas.Result.{on_ok_weaker}
use Rattle.transcript_text.specs.Fields.{spaced}
use Rattle.transcript_text.specs.Trace.{operation_fields}
use Rattle.transcript_text.proofs.FrontLemmas.{line_put}
use Rattle.transcript_text.proofs.trace.put_operation.Goals as goal

pub returns : goal.returns
returns c =
    let name = c.args.name.now in
    let fields = operation_fields c.args.entry.now c.args.marked in
    let line = c.as_slice.ensures ∙ c.put_name.ensures ∙ ap (λ t. name ++ t) (c.put_fields.ensures.text ∙ ap (λ t. spaced fields ++ t) c.begin.ensures) ∙ line_put name fields in
    on_ok_weaker c.put_bytes.result (λ added. added ∙ ap (λ t. c.args.out.now ++ t) line) c.put_bytes.ensures
