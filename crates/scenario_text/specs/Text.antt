-- The lines of a text, the fields of a line, and the digits of a field.
use Rattle.std.specs.Prelude.{ℕ, ◌+◌, ◌*◌, ◌-◌, ◌^◌, ◌==◌, min, List, [], ◌∷◌, Option, None, Some, codes, Bool, true, not, ◌&&◌, nat_lt, nat_le, nat_eq, length, slice_index, slice_index_or, if◌then◌else◌}
use Rattle.std.specs.Char.{is_ascii_digit}
use Rattle.std.specs.List.{slice_split, starts_with, list_all}
use Rattle.std.specs.Option.{unwrap_or}
use Rattle.std.specs.Str.Parse.{digits_value}

-- a field's bytes; a line's fields
abbrev pub Field : Type 0
Field = List ℕ

abbrev pub Line : Type 0
Line = List Field

-- the parts of these bytes between separators
abbrev pub split : ℕ → List ℕ → List (List ℕ)
split separator bytes = slice_split (λ b. b == separator) bytes

-- the same of the bytes that are left, if any are
abbrev pub parts : ℕ → Option (List ℕ) → List (List ℕ)
parts separator None = []
parts separator (Some bytes) = split separator bytes

-- the parts that are left
pub record Parting : Type 0 where
  pub separator : ℕ
  pub left : List (List ℕ)

-- the part at a place, or no bytes past the end
abbrev pub part_at : List (List ℕ) → ℕ → List ℕ
part_at parts place = slice_index_or parts place []

-- 0x20 to 0x7e
abbrev pub is_text_byte : ℕ → Bool
is_text_byte b = nat_le 32 b && nat_le b 126

-- a line that says nothing: it is empty or begins with `#`
abbrev pub is_skipped : List ℕ → Bool
is_skipped [] = true
is_skipped (b ∷ bs) = b == 35

abbrev pub is_digit : ℕ → Bool
is_digit b = is_ascii_digit b

-- one digit or more, and nothing else
abbrev pub is_digits : Field → Bool
is_digits field = nat_lt 0 (length field) && list_all is_digit field

-- a zero stands before other digits
abbrev pub has_leading_zero : Field → Bool
has_leading_zero digits = nat_lt 1 (length digits) && starts_with nat_eq digits (codes "0")

-- decimal, below 2^64, without leading zeros
abbrev pub is_number : Field → Bool
is_number digits = is_digits digits && not (has_leading_zero digits) && nat_lt (digits_value 10 digits) (2 ^ 64)

abbrev pub read_number : Field → Option ℕ
read_number digits = if is_number digits then Some (digits_value 10 digits) else None

-- the number in a place of a line; 0 where none is there
abbrev pub number_at : Line → ℕ → ℕ
number_at line place = unwrap_or (read_number (part_at line place)) 0

-- a number of 32 bits; a greater one passes its limit and is kept as 2^32 - 1
abbrev pub small : ℕ → ℕ
small n = min n (2 ^ 32 - 1)

abbrev pub small_at : Line → ℕ → ℕ
small_at line place = small (number_at line place)

-- the name in the first place after the word
abbrev pub name_in : Line → Field
name_in line = part_at line 1

-- 0 to 9 and a to f
abbrev pub hex_digit : ℕ → Option ℕ
hex_digit b = if nat_le 48 b && nat_le b 57 then Some (b - 48) else if nat_le 97 b && nat_le b 102 then Some (b - 97 + 10) else None

-- two values as one, where the second is below `size`
abbrev pub joined : ℕ → Option ℕ → Option ℕ → Option ℕ
joined size (Some high) (Some low) = Some (high * size + low)
joined size _ _ = None

abbrev pub read_hex_pair : ℕ → ℕ → Option ℕ
read_hex_pair high low = joined 16 (hex_digit high) (hex_digit low)

-- two digits of a field, and four
abbrev pub pair_at : Field → ℕ → Option ℕ
pair_at field place = read_hex_pair (slice_index field place) (slice_index field (place + 1))

abbrev pub half_at : Field → ℕ → Option ℕ
half_at field place = joined 256 (pair_at field place) (pair_at field (place + 2))

-- `#` and eight hexadecimal digits
abbrev pub has_key_form : Field → Bool
has_key_form field = (length field == 9) && starts_with nat_eq field (codes "#")

abbrev pub read_key : Field → Option ℕ
read_key field = if has_key_form field then joined 65536 (half_at field 1) (half_at field 5) else None
