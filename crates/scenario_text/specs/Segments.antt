-- The text of a scatter/gather entry: its key, its address and its length.
use Rattle.std.specs.Prelude.{ℕ, ◌==◌, drop, length, Bool, not, ◌||◌, ◌&&◌, is_some, slice_index}
use Rattle.std.specs.Option.{unwrap_or}
use Rattle.verbs_types.specs.Names.{is_name}
use Rattle.verbs_types.specs.declared.request.Sge.{Sge}
use Rattle.scenario_text.specs.Text.{Field, Line, split, part_at, is_digits, is_number, read_number, read_hex_pair, read_key, small}

-- the fields in which the entries of a receive stand: all after its id
abbrev pub segment_fields : Line → Line
segment_fields line = drop 2 line

-- what stands between `:`
abbrev pub segment_part : Field → ℕ → Field
segment_part field place = part_at (split 58 field) place

abbrev pub has_parts : Field → Bool
has_parts field = length (split 58 field) == 3

abbrev pub has_numbers : Field → Bool
has_numbers field = is_number (segment_part field 1) && is_number (segment_part field 2)

abbrev pub length_in : Field → ℕ
length_in field = unwrap_or (read_number (segment_part field 2)) 0

-- what an entry spells
abbrev pub segment_in : Field → Sge
segment_in field = record {
  key = unwrap_or (read_key (segment_part field 0)) 0;
  addr = unwrap_or (read_number (segment_part field 1)) 0;
  len = small (length_in field);
}

-- the entry that ends a list of entries in words
abbrev pub is_list_end : Sge → Bool
is_list_end s = (s.key == 0x100) && (s.addr == 0) && (s.len == 0)

-- it is no entry of a receive
abbrev pub is_formed : Field → Bool
is_formed field =
    has_parts field && is_some (read_key (segment_part field 0)) && is_digits (segment_part field 1) && is_digits (segment_part field 2)
    && not (has_numbers field && is_list_end (segment_in field))

-- what stands between `~`
abbrev pub key_part : Field → ℕ → Field
key_part key place = part_at (split 126 key) place

-- two hexadecimal digits
abbrev pub is_variant : Field → Bool
is_variant field = (length field == 2) && is_some (read_hex_pair (slice_index field 0) (slice_index field 1))

-- the name of a key, or it with another variant
abbrev pub names_key : Field → Bool
names_key key = is_name (key_part key 0) && ((length (split 126 key) == 1) || ((length (split 126 key) == 2) && is_variant (key_part key 1)))

-- an entry that names its key, which is not built yet
abbrev pub is_later : Field → Bool
is_later field = has_parts field && names_key (segment_part field 0)
