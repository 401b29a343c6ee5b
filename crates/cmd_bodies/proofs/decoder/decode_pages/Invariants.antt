use Rattle.std.proofs.Common.{◌≡◌, ℕ, length, slice_index}
use Rattle.cmd_bodies.proofs.Words.{word_at}
use Rattle.cmd_bodies.proofs.decoder.decode_pages.Given as goal

abbrev pub invariant-loop-k : goal.invariant-loop-k
invariant-loop-k l = record {
  long : length l.pages ≡ 88;
  read : (j : ℕ) → slice_index l.pages j ≡ word_at l.parameters l.k j;
}
