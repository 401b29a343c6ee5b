-- The exclusive-or of a byte string.
use Rattle.std.specs.Prelude.{ℕ, List, bit_xor, fold}

abbrev pub exclusive_or : List ℕ → ℕ
exclusive_or bytes = fold bit_xor 0 bytes
