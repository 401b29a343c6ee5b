use Rattle.std.proofs.Common.{inl, inr, codes, arith}
use Rattle.std.proofs.lemmas.Result.{on_ok_weaker}
use Rattle.cqe_format.proofs.Words.{AreBytes, spelled_again}
use Rattle.cqe_format.specs.Event.{IsEqe, event_layout}
use Rattle.mlx5_dump.specs.Answer.{fields_text, good, numbered, refused}
use Rattle.mlx5_dump.proofs.Entries.{spelled, wrong_from}
use Rattle.mlx5_dump.proofs.answer.put_event.Goals as goal

pub returns-in-Ok : goal.returns-in-Ok
returns-in-Ok c =
    let bytes = c.args.bytes.now in
    let small : AreBytes bytes = λ k. omega (arith, c.type_inv.bytes k) in
    let again = spelled_again c.words_of.result bytes c.words_of.ensures.long c.requires small c.words_of.ensures.each in
    let is = spelled IsEqe event_layout _ bytes c.in-Ok.event c.layout_of_event.result again c.in-Ok.ensures.found c.layout_of_event.ensures in
    on_ok_weaker c.put_good.result (λ grown. record { answer = good (fields_text c.layout_of_event.result bytes); answered = inl is; grown = grown }) c.put_good.ensures

pub returns-in-Err : goal.returns-in-Err
returns-in-Err c =
    let bytes = c.args.bytes.now in
    let small : AreBytes bytes = λ k. omega (arith, c.type_inv.bytes k) in
    let again = spelled_again c.words_of.result bytes c.words_of.ensures.long c.requires small c.words_of.ensures.each in
    let is = wrong_from IsEqe _ bytes c.in-Err.wrong.byte again c.in-Err.ensures.refused in
    on_ok_weaker c.put_refusal.result (λ grown. record { answer = refused (numbered (codes "byte") c.in-Err.wrong.byte); answered = inr is; grown = grown }) c.put_refusal.ensures
