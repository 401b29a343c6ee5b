use Rattle.std.proofs.Common.{◌≡◌, ◌==◌, true, length, refl, sym, ap, ◌∙◌, arith}
use Rattle.std.proofs.lemmas.Bool.{eq-eqb}
use Rattle.std.proofs.lemmas.List.{length-drop}
use Rattle.cmd_bodies.specs.Command.{input_length, output_length, second_at}
use Rattle.cmd_bodies.proofs.Table.{command_read, none_read, shortest_row}
use Rattle.cmd_bodies.proofs.decoder.decode_row.Goals as goal

pub command_of-requires : goal.command_of-requires
command_of-requires c =
    let input = c.args.input.now in
    let long : length input ≡ input_length c.args.kind c.args.head.second = c.if-input-input_length.false ∙ c.input_length.ensures in
    let least = shortest_row c.args.kind c.args.head.second in
    rw (c.behind_head.ensures, length-drop) (omega (arith, long, least))

pub returns-in-Some-clause-value : goal.returns-in-Some-clause-value
returns-in-Some-clause-value c =
    let input = c.args.input.now in
    (command_read c.args.kind input c.behind_head.result.now c.args.head.between c.args.head.number c.args.head.second c.requires.between c.requires.number c.requires.second c.behind_head.ensures (sym c.if-not-head_clear.ensures) c.in-Some.command c.in-Some.ensures).1

pub returns-in-Some-clause-refused : goal.returns-in-Some-clause-refused
returns-in-Some-clause-refused c =
    let input = c.args.input.now in
    let clear = (command_read c.args.kind input c.behind_head.result.now c.args.head.between c.args.head.number c.args.head.second c.requires.between c.requires.number c.requires.second c.behind_head.ensures (sym c.if-not-head_clear.ensures) c.in-Some.command c.in-Some.ensures).0 in
    let long : (length input == input_length c.args.kind (second_at input)) ≡ true = eq-eqb _ _ (c.if-input-input_length.false ∙ c.input_length.ensures ∙ ap (input_length c.args.kind) c.requires.second) in
    let output : (c.args.out_len == output_length c.args.kind (second_at input)) ≡ true = eq-eqb _ _ (c.if-out_len-output_length_at.false ∙ c.output_length_at.ensures ∙ ap (output_length c.args.kind) c.requires.second) in
    rw (long, output, clear) refl

pub returns-in-None-clause-refused : goal.returns-in-None-clause-refused
returns-in-None-clause-refused c =
    let input = c.args.input.now in
    let clear = none_read c.args.kind input c.behind_head.result.now c.args.head.between c.args.head.number c.args.head.second c.requires.between c.requires.number c.requires.second c.behind_head.ensures (sym c.if-not-head_clear.ensures) c.in-None.ensures in
    let long : (length input == input_length c.args.kind (second_at input)) ≡ true = eq-eqb _ _ (c.if-input-input_length.false ∙ c.input_length.ensures ∙ ap (input_length c.args.kind) c.requires.second) in
    let output : (c.args.out_len == output_length c.args.kind (second_at input)) ≡ true = eq-eqb _ _ (c.if-out_len-output_length_at.false ∙ c.output_length_at.ensures ∙ ap (output_length c.args.kind) c.requires.second) in
    rw (long, output, clear) refl
