-- The bytes of the control segment, in the first two words.
use Rattle.std.proofs.Common.{◌≡◌, ℕ, ◌/◌, ◌%◌, ◌^◌, ◌<◌, ◌==◌, ◌∙◌, ap, arith, List}
use Rattle.std.specs.Prelude.{slice_index}
use Rattle.prm_fields.specs.Bits.{field_value}
use Rattle.prm_fields.proofs.Parts.{byte_value}
use Rattle.work_entries.specs.Control.{units_at, flags_at}
use Rattle.work_entries.specs.Front.{units_in, opcode_in, is_wanted, OfFirst, OfSecond}
use Rattle.work_entries.specs.Unit.{unit, word_bytes}

units_byte : (words : List ℕ) → slice_index (unit words 0) 7 ≡ slice_index words 0 % 2 ^ 8
unfolding unit word_bytes
units_byte words = omega arith

opcode_byte : (words : List ℕ) → slice_index (unit words 0) 3 ≡ slice_index words 0 / 2 ^ 32 % 2 ^ 8
unfolding unit word_bytes
opcode_byte words = omega arith

flags_byte : (words : List ℕ) → slice_index (unit words 0) 11 ≡ slice_index words 1 / 2 ^ 32 % 2 ^ 8
unfolding unit word_bytes
flags_byte words = omega arith

pub units_value : (words : List ℕ) → units_at (unit words 0) ≡ slice_index words 0 % 2 ^ 8
units_value words =
    let low : slice_index (unit words 0) 7 < 256 = rw (units_byte words) (omega arith) in
    byte_value (unit words 0) 7 low ∙ units_byte words

pub opcode_value : (words : List ℕ) → field_value (unit words 0) 24 8 ≡ opcode_in (slice_index words 0)
opcode_value words =
    let low : slice_index (unit words 0) 3 < 256 = rw (opcode_byte words) (omega arith) in
    byte_value (unit words 0) 3 low ∙ opcode_byte words

pub flags_value : (words : List ℕ) → flags_at (unit words 0) ≡ slice_index words 1 / 2 ^ 32 % 2 ^ 8
flags_value words =
    let low : slice_index (unit words 0) 11 < 256 = rw (flags_byte words) (omega arith) in
    byte_value (unit words 0) 11 low ∙ flags_byte words

pub units_field : (first : ℕ) → OfFirst first (λ control. units_at control % 2 ^ 6 ≡ units_in first)
units_field first words is = omega (arith, units_value words, is)

pub opcode_field : (first : ℕ) → OfFirst first (λ control. field_value control 24 8 ≡ opcode_in first)
opcode_field first words is = opcode_value words ∙ ap opcode_in is

pub wanted_field : (second : ℕ) → OfSecond second (λ control. (flags_at control / 8 % 2 == 1) ≡ is_wanted second)
wanted_field second words is =
    let bit : flags_at (unit words 0) / 8 % 2 ≡ second / 2 ^ 35 % 2 = omega (arith, flags_value words, is) in
    ap (λ n. n == 1) bit
