use Rattle.std.proofs.Common.{◌≡◌, ℕ, ◌*◌, ◌<◌, length, slice_index}
use Rattle.prm_fields.specs.Bits.{field_value}
use Rattle.mlx5_dump.proofs.answer.words_of.Given as goal

-- the words so far are there
abbrev pub invariant-loop-k : goal.invariant-loop-k
invariant-loop-k g l = record {
  long : length l.words ≡ g.row.N;
  each : (j : ℕ) → j < l.k → slice_index l.words j ≡ field_value l.bytes (64 * j) 64;
}
