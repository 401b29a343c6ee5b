use Rattle.std.proofs.Common.{◌≡◌, ◌-◌, ◌*◌, min}
use Rattle.prm_fields.specs.Bits.{field_value}
use Rattle.prm_fields.proofs.bits.is_clear.Given as goal

abbrev pub invariant-loop-i : goal.invariant-loop-i
invariant-loop-i l =
    let read = min l.end (8 * l.i) - l.first in
    record {
      clear : l.found ≡ 0 → field_value l.bytes l.first read ≡ 0;
      found : field_value l.bytes l.first read ≡ 0 → l.found ≡ 0;
    }
