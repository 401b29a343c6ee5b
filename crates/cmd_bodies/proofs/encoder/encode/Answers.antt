use Rattle.std.proofs.Common.{◌≡◌, ap, ◌∙◌}
use Rattle.cmd_bodies.specs.declared.kind.Kind.{Kind}
use Rattle.cmd_bodies.specs.declared.kind.CommandRow.{CommandRow}
use Rattle.cmd_bodies.specs.Kind.{command_row}
use Rattle.cmd_bodies.specs.Command.{input_length, input_length_of, kind_of}
use Rattle.cmd_bodies.proofs.Encoded.{encoded, head_kept}
use Rattle.cmd_bodies.proofs.encoder.encode.Goals as goal

pub returns-clause-spelled : goal.returns-clause-spelled
returns-clause-spelled c =
    let command = c.args.c.now in
    let code : c.row.result.code ≡ (command_row (kind_of command)).code =
    ap (λ (r : CommandRow). r.code) c.row.ensures ∙ ap (λ (k : Kind). (command_row k).code) c.kind.ensures in
    let written = rw (code, c.number.ensures, c.second.ensures) at c.put_head.ensures.head in
    let head = head_kept _ _ _ _ _ c.put_parameters.new.to written c.put_parameters.ensures.others in
    let wanted : c.input_length.result ≡ input_length_of command =
    c.input_length.ensures ∙ ap (λ (k : Kind). input_length k c.second-2.result) c.kind-2.ensures ∙ ap (input_length (kind_of command)) c.second-2.ensures in
    rw wanted (encoded command c.put_parameters.new.to c.put_parameters.array_long c.requires head c.put_parameters.ensures.parameters)
