use Rattle.std.proofs.Common.{◌≡◌, ◌∙◌, length}
use Rattle.std.proofs.lemmas.List.{take_at}
use Rattle.cmd_slots.proofs.question.entry_input.Goals as goal

pub returns-clause-head : goal.returns-clause-head
returns-clause-head c =
    let long : length c.copy_from_slice.new.self ≡ 16 = c.copy_from_slice.ensures.len in
    take_at c.copy_from_slice.new.self _ 16 long ∙ c.copy_from_slice.ensures.after
