use Rattle.std.proofs.Common.{◌≡◌, ◌++◌, OnOk, Some, None, codes, subst}
use Rattle.mlx5_dump.specs.Answer.{numbered, refused}
use Rattle.mlx5_dump.proofs.Blocks.{told_block}
use Rattle.mlx5_dump.proofs.answer.put_block.Goals as goal

pub returns-in-Ok : goal.returns-in-Ok
returns-in-Ok c =
    let told = told_block c.args.bytes.now c.array_of.result c.array_of-tail.result c.get-token.result c.get-number.result None c.array_of-tail.ensures c.array_of.ensures c.get-token.ensures.value c.get-number.ensures.value c.in-Ok.ensures.refused in
    subst (λ answer. OnOk c.put_good.result (c.put_good.new.text.items ≡ c.args.text.now.items ++ answer)) told c.put_good.ensures

pub returns-in-Err : goal.returns-in-Err
returns-in-Err c =
    let told = told_block c.args.bytes.now c.array_of.result c.array_of-tail.result c.get-token.result c.get-number.result (Some c.in-Err.fault) c.array_of-tail.ensures c.array_of.ensures c.get-token.ensures.value c.get-number.ensures.value c.in-Err.ensures.refused in
    let refusal = subst (λ n. OnOk c.put_refusal.result (c.put_refusal.new.text.items ≡ c.args.text.now.items ++ refused (numbered (codes "delivery") n))) c.number.ensures c.put_refusal.ensures in
    subst (λ answer. OnOk c.put_refusal.result (c.put_refusal.new.text.items ≡ c.args.text.now.items ++ answer)) told refusal
