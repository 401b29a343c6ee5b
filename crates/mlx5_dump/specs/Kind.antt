-- The kinds of dumps: how a line names each, and how many bytes it has.
use Rattle.std.specs.Prelude.{ℕ, ◌==◌, ◌%◌, nat_le, Bool, ◌&&◌, List, codes}
use Rattle.mlx5_dump.specs.declared.kind.Kind.{Kind}
use Rattle.mlx5_dump.specs.declared.kind.Kind.TheVariants.{Cqe, Eqe, Send, Entry, Block, Body}

abbrev pub kind_name : Kind → List ℕ
kind_name Cqe = codes "cqe"
kind_name Eqe = codes "eqe"
kind_name Send = codes "send"
kind_name Entry = codes "entry"
kind_name Block = codes "block"
kind_name Body = codes "body"

-- whether a dump of a kind may have `count` bytes
abbrev pub has_length : Kind → ℕ → Bool
has_length Cqe count = count == 64
has_length Eqe count = count == 64
has_length Send count = nat_le 64 count && nat_le count 256 && (count % 64 == 0)
has_length Entry count = count == 64
has_length Block count = count == 576
has_length Body count = nat_le 16 count && nat_le count 1040
