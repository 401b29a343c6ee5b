use Rattle.prm_fields.proofs.Values.{field_value-lt}
use Rattle.prm_fields.proofs.bits.Field.get.Goals as goal

pub returns-clause-small : goal.returns-clause-small
returns-clause-small g c = rw c.number_at.ensures (field_value-lt c.args.bytes.now g.row.BIT g.row.WIDTH)
