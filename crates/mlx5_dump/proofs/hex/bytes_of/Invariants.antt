use Rattle.std.proofs.Common.{◌≡◌, ◌≤◌, ◌-◌, ◌*◌, length, take}
use Rattle.arrayvec.specs.ArrayVec.{array_vec_len}
use Rattle.mlx5_dump.specs.Hex.{AreBytes, hex_text}
use Rattle.mlx5_dump.proofs.hex.bytes_of.Given as goal

-- the digits so far spell the bytes so far
abbrev pub invariant-loop-place : goal.invariant-loop-place
invariant-loop-place l = record {
  spelled : take l.place l.digits ≡ hex_text l.bytes.items;
  small : AreBytes l.bytes.items;
  place : l.place ≡ 2 * array_vec_len l.bytes;
  within : l.place ≤ length l.digits;
}

abbrev pub decreases-loop-place : goal.decreases-loop-place
decreases-loop-place l = length l.digits - l.place
