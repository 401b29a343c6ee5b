use Rattle.std.proofs.Common.{◌≡◌, ◌/◌, ◌%◌, ◌^◌, ◌<◌, ◌∙◌, arith, rules, take, get_or}
use Rattle.std.proofs.lemmas.List.{get_or-take, length-take-le}
use Rattle.std.proofs.lemmas.Nat.{and_mask}
use Rattle.cmd_slots.specs.Question.{token as token_in}
use Rattle.cmd_slots.proofs.Spelling.{word_part}
use Rattle.cmd_slots.proofs.answering.token_of.Goals as goal

pub returns : goal.returns
returns c =
    let entry = c.args.entry.now in
    let eight = length-take-le 8 entry c.requires in
    let last = get_or-take 8 entry 7 0 (omega arith) in
    let small : get_or entry 7 0 < 2 ^ 64 = search (rules, c.type_inv.entry) in
    let part : token_in entry ≡ get_or (take 8 entry) 7 0 % 2 ^ 64 / 2 ^ 24 % 2 ^ 8 = word_part (take 8 entry) 7 32 8 24 (omega (arith, eight)) (omega arith) in
    and_mask (get_or entry 7 0 / 16777216) 8 ∙ omega (arith, part, last, small)
