-- Which texts are names.
use Rattle.std.specs.Prelude.{ℕ, Bool, false, ◌||◌, ◌&&◌, ◌==◌, nat_le, List, [], ◌∷◌, length}
use Rattle.std.specs.Char.{is_ascii_lowercase, is_ascii_digit}
use Rattle.std.specs.List.{list_all}

-- a byte of a name: a small letter, a digit or `_`
abbrev pub is_name_byte : ℕ → Bool
is_name_byte b = is_ascii_lowercase b || is_ascii_digit b || (b == 95)

abbrev pub starts_with_letter : List ℕ → Bool
starts_with_letter [] = false
starts_with_letter (b ∷ bs) = is_ascii_lowercase b

-- 1 to 16 such bytes, the first a letter
abbrev pub is_name : List ℕ → Bool
is_name text = starts_with_letter text && nat_le (length text) 16 && list_all is_name_byte text
