use Rattle.std.proofs.Common.{◌≡◌, ℕ, ◌+◌, ◌*◌, ◌<◌, slice_index}
use Rattle.prm_fields.specs.Bits.{field_value, KeepsOtherBits}
use Rattle.cmd_bodies.proofs.encoder.put_pages.Given as goal

abbrev pub invariant-loop-k : goal.invariant-loop-k
invariant-loop-k l = record {
  written : (j : ℕ) → j < l.k → field_value l.to (128 + 64 * j) 64 ≡ slice_index l.pages j;
  kept : KeepsOtherBits l.initial.to l.to 128 (64 * l.k);
}
