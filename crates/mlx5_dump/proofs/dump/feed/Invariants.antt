use Rattle.std.proofs.Common.{ℕ, List, take}
use Rattle.mlx5_dump.specs.Feeding.{Feeds, Keeps}
use Rattle.mlx5_dump.proofs.dump.feed.Given as goal

-- the bytes so far were fed
abbrev pub invariant-loop-byte : goal.invariant-loop-byte
invariant-loop-byte l =
    (line : List ℕ) → Keeps l.fn.kept.items line → Feeds line (take l.byte-index l.piece) l.kept.items l.fn.answers.items l.answers.items
