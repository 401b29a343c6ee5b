use Rattle.std.proofs.Common.{◌≡◌, ◌∙◌, ap, sym, take, Err, List, ℕ}
use Rattle.cmd_slots.specs.declared.answer.Answer.TheVariants.{Delivered}
use Rattle.cmd_slots.specs.Refusal.{refusal_with}
use Rattle.cmd_slots.specs.Question.{input_of, body_of}
use Rattle.cmd_slots.proofs.Bodies.{body_read, body_refused}
use Rattle.cmd_slots.proofs.question.read_body.Goals as goal

pub returns-in-Ok : goal.returns-in-Ok
returns-in-Ok c =
    let words = c.args.words.now in
    let entry = c.args.entry.now in
    let input : List ℕ = take entry.in_len c.input_bytes-bytes.result in
    let same : input ≡ input_of words = ap (λ n. take n c.input_bytes-bytes.result) (sym c.requires.entry.in_len) ∙ c.input_bytes-bytes.ensures in
    sym (ap (λ n. body_of (input_of words) n) c.requires.entry.out_len
    ∙ ap (λ i. body_of i entry.out_len) (sym same)
    ∙ body_read input entry.out_len c.in-Ok.c c.in-Ok.ensures.found c.in-Ok.ensures.output c.in-Ok.ensures.refused)

pub returns-in-Err : goal.returns-in-Err
returns-in-Err c =
    let words = c.args.words.now in
    let entry = c.args.entry.now in
    let input : List ℕ = take entry.in_len c.input_bytes-bytes.result in
    let same : input ≡ input_of words = ap (λ n. take n c.input_bytes-bytes.result) (sym c.requires.entry.in_len) ∙ c.input_bytes-bytes.ensures in
    ap (λ reply. Err (Delivered reply)) (c.refusal.ensures ∙ ap refusal_with c.status.ensures)
    ∙ sym (ap (λ n. body_of (input_of words) n) c.requires.entry.out_len
    ∙ ap (λ i. body_of i entry.out_len) (sym same)
    ∙ body_refused input entry.out_len c.in-Err.fault c.in-Err.ensures.refused)
