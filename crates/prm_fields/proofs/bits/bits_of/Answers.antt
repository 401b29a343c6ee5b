use Rattle.std.proofs.Common.{arith, refl}
use Rattle.std.proofs.lemmas.Nat.{one_shl, and_mask}
use Rattle.prm_fields.proofs.bits.bits_of.Goals as goal

pub returns : goal.returns
returns c = rw (one_shl c.args.count 64 (omega arith), and_mask) refl
