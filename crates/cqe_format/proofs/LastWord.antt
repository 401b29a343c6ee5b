-- The owner bit and the opcode of an entry, in its last word.
use Rattle.std.proofs.Common.{◌≡◌, ℕ, ◌%◌, ◌^◌, sym, ap, ◌∙◌, arith, List, length}
use Rattle.std.specs.Prelude.{slice_index}
use Rattle.prm_fields.specs.Bits.{field_value}
use Rattle.cqe_format.specs.Bytes.{entry_bytes}
use Rattle.cqe_format.specs.LastWord.{owner_in, opcode_in, IsFieldOfLast}
use Rattle.cqe_format.proofs.Words.{word_value, owner_of_word, opcode_of_word}

module _ (last : ℕ) (words : List ℕ) (eight : length words ≡ 8) (is : slice_index words 7 ≡ last) where
  last_value : last % 2 ^ 64 ≡ field_value (entry_bytes words) 448 64
  last_value = sym (word_value words 7 (omega (arith, eight)) ∙ ap (λ w. w % 2 ^ 64) is)

  owner : field_value (entry_bytes words) 511 1 ≡ owner_in last
  owner = sym (owner_of_word (entry_bytes words) (last % 2 ^ 64) last_value) ∙ omega arith

  opcode : field_value (entry_bytes words) 504 4 ≡ opcode_in last
  opcode = sym (opcode_of_word (entry_bytes words) (last % 2 ^ 64) last_value) ∙ omega arith

pub owner_field : (last : ℕ) → IsFieldOfLast last 511 1 (owner_in last)
owner_field last words eight is = owner last words eight is

pub opcode_field : (last : ℕ) → IsFieldOfLast last 504 4 (opcode_in last)
opcode_field last words eight is = opcode last words eight is
