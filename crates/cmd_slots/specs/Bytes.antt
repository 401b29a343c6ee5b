-- Words as bytes.
use Rattle.std.specs.Prelude.{ℕ, List}
use Rattle.std.specs.List.{flat_map}
use Rattle.std.specs.Int.{w64, to_be_bytes}

-- the bytes of words, the highest byte of each first
unfoldable pub bytes_of : List ℕ → List ℕ
bytes_of words = flat_map (to_be_bytes w64) words
