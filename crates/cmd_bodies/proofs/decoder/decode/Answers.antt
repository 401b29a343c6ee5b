use Rattle.std.proofs.Common.{sym, ap, ◌∙◌}
use Rattle.cmd_bodies.specs.Kind.{kind_of_code}
use Rattle.cmd_bodies.proofs.Table.{fits_one, found_one, never_without_row, only_one, output_one}
use Rattle.cmd_bodies.proofs.decoder.decode.Goals as goal

pub returns-in-Some-clause-found : goal.returns-in-Some-clause-found
returns-in-Some-clause-found c =
    let known = sym (ap kind_of_code c.head_of-head.ensures.code) ∙ sym c.in-Some.ensures in
    found_one c.args.input.now c.args.out_len c.in-Some.kind known c.decode_row.result c.decode_row.ensures.value c.decode_row.ensures.refused

pub returns-in-Some-clause-fits : goal.returns-in-Some-clause-fits
returns-in-Some-clause-fits c =
    let known = sym (ap kind_of_code c.head_of-head.ensures.code) ∙ sym c.in-Some.ensures in
    fits_one c.args.input.now c.args.out_len c.in-Some.kind known c.decode_row.result c.decode_row.ensures.value c.decode_row.ensures.refused

pub returns-in-Some-clause-output : goal.returns-in-Some-clause-output
returns-in-Some-clause-output c =
    let known = sym (ap kind_of_code c.head_of-head.ensures.code) ∙ sym c.in-Some.ensures in
    output_one c.args.input.now c.args.out_len c.in-Some.kind known c.decode_row.result c.decode_row.ensures.value c.decode_row.ensures.refused

pub returns-in-Some-clause-only : goal.returns-in-Some-clause-only
returns-in-Some-clause-only c =
    let known = sym (ap kind_of_code c.head_of-head.ensures.code) ∙ sym c.in-Some.ensures in
    only_one c.args.input.now c.args.out_len c.in-Some.kind known c.decode_row.result c.decode_row.ensures.value c.decode_row.ensures.refused

pub returns-in-None-clause-only : goal.returns-in-None-clause-only
returns-in-None-clause-only c =
    λ command is wanted.
    absurd (never_without_row c.args.input.now (sym (ap kind_of_code c.head_of-head.ensures.code) ∙ sym c.in-None.ensures) command is)
