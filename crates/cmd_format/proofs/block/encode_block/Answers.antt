use Rattle.cmd_format.specs.Block.{padded}
use Rattle.cmd_format.proofs.Blocks.{length-padded, part_kept, tail_kept}
use Rattle.cmd_format.proofs.block.encode_block.Goals as goal

pub returns : goal.returns
returns c =
    let kept = rw c.join-bytes.ensures at c.sign_block.ensures.others in
    let part_long = length-padded c.args.part.now c.requires in
    record {
      part = part_kept (padded c.args.part.now) c.encode_tail-tail.result c.sign_block.new.bytes part_long c.encode_tail-tail.ensures.long c.sign_block.array_long kept;
      tail = tail_kept (padded c.args.part.now) c.encode_tail-tail.result c.sign_block.new.bytes part_long c.encode_tail-tail.ensures.long c.sign_block.array_long kept c.args.next c.args.number c.args.token c.encode_tail-tail.ensures.parts;
      control_signed = c.sign_block.ensures.control_signed;
      signed = c.sign_block.ensures.signed;
    }
