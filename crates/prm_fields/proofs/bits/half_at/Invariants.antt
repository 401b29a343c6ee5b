use Rattle.std.proofs.Common.{◌≡◌, ◌-◌, ◌*◌, min}
use Rattle.prm_fields.specs.Bits.{field_value}
use Rattle.prm_fields.proofs.bits.half_at.Given as goal

abbrev pub invariant-loop-i : goal.invariant-loop-i
invariant-loop-i l = l.value ≡ field_value l.bytes l.first (min l.end (8 * l.i) - l.first)
