-- Bytes as hexadecimal digits.
use Rattle.std.specs.Prelude.{ℕ, ◌+◌, ◌/◌, ◌%◌, ◌<◌, nat_lt, if◌then◌else◌, List, [], ◌∷◌, slice_index}
use Rattle.std.specs.List.{flat_map}

-- the digit of a number below 16, in lower case
abbrev pub hex_digit : ℕ → ℕ
hex_digit n = if nat_lt n 10 then 48 + n else 87 + n

abbrev pub two_digits : ℕ → List ℕ
two_digits byte = hex_digit (byte / 16) ∷ hex_digit (byte % 16) ∷ []

-- two digits a byte
abbrev pub hex_text : List ℕ → List ℕ
hex_text bytes = flat_map two_digits bytes

abbrev pub AreBytes : List ℕ → Type 0
AreBytes bytes = (k : ℕ) → slice_index bytes k < 256
