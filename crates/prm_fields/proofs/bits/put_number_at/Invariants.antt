use Rattle.std.proofs.Common.{◌≡◌, ◌-◌, ◌*◌, ◌/◌, ◌^◌, min}
use Rattle.prm_fields.specs.Bits.{field_value, KeepsOtherBits}
use Rattle.prm_fields.proofs.bits.put_number_at.Given as goal

abbrev pub invariant-loop-i : goal.invariant-loop-i
invariant-loop-i l =
    let written = min l.end (8 * l.i) - l.first in
    record {
      kept : KeepsOtherBits l.initial.bytes l.bytes l.first written;
      value : field_value l.bytes l.first written ≡ l.value / 2 ^ (l.width - written);
    }
