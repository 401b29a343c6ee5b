use Rattle.std.proofs.Common.{◌/◌, length, Some, None, refl}
use Rattle.std.proofs.lemmas.Result.{on_ok_weaker}
use Rattle.work_entries.specs.declared.units.SendWords.{SendWords}
use Rattle.mlx5_dump.specs.Answer.{HasWords, good, refused, send_fields, unit_words}
use Rattle.mlx5_dump.proofs.Entries.{send_answer}
use Rattle.mlx5_dump.proofs.answer.put_send.Goals as goal

pub returns-in-Ok : goal.returns-in-Ok
returns-in-Ok c =
    let bytes = c.args.bytes.now in
    let entry : SendWords = record { blocks = length bytes / 64; words = c.words_of.result } in
    let has : HasWords entry bytes = record { blocks = refl; words = c.words_of.ensures.each } in
    let is = send_answer entry bytes None has c.in-Ok.ensures.refused in
    on_ok_weaker c.put_control.result (λ grown. record { answer = good (send_fields bytes); answered = is; grown = grown }) c.put_control.ensures

pub returns-in-Err : goal.returns-in-Err
returns-in-Err c =
    let bytes = c.args.bytes.now in
    let entry : SendWords = record { blocks = length bytes / 64; words = c.words_of.result } in
    let has : HasWords entry bytes = record { blocks = refl; words = c.words_of.ensures.each } in
    let is = send_answer entry bytes (Some c.in-Err.bad) has c.in-Err.ensures.refused in
    on_ok_weaker c.put_bad_unit.result (λ grown. record { answer = refused (unit_words c.in-Err.bad); answered = is; grown = grown }) c.put_bad_unit.ensures
