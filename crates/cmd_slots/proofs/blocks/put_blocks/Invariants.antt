use Rattle.cmd_format.specs.Block.{IsBlock, block_at}
use Rattle.cmd_slots.proofs.Ranges.{Written}
use Rattle.cmd_slots.proofs.blocks.put_blocks.Given as goal

abbrev pub invariant-loop-b : goal.invariant-loop-b
invariant-loop-b l = Written l.at l.words l.initial.words (λ b. IsBlock (block_at l.rest l.addresses b) l.token b) l.b
