-- An entry's bytes as a row of puts.
use Rattle.std.proofs.Common.{◌≡◌, ℕ, List, [], ◌∷◌, length, slice_index, slice_range, inl, true, refl, sym, ◌∙◌, arith}
use Rattle.prm_fields.specs.Bits.{field_value, KeepsOtherBytes}
use Rattle.prm_fields.proofs.Chains.{Put, put_of, Chain, all_hold, untouched, is_apart, field_value-zeros}
use Rattle.prm_fields.proofs.Parts.{kept_range}
use Rattle.cmd_format.specs.declared.entry.CmdEntry.{CmdEntry}
use Rattle.cmd_format.specs.Signature.{exclusive_or}
use Rattle.cmd_format.specs.Entry.{IsEntry}

-- the puts that write an entry: its numbers, its input and output as they stand, and its signature
abbrev pub entry_puts : CmdEntry → ℕ → ℕ → ℕ → List Put
entry_puts e input output signature =
    put_of 0 8 7
    ∷ put_of 32 32 e.in_len
    ∷ put_of 64 64 e.in_ptr
    ∷ put_of 384 64 e.out_ptr
    ∷ put_of 448 32 e.out_len
    ∷ put_of 480 8 e.token
    ∷ put_of 504 8 e.status_own
    ∷ put_of 128 128 input
    ∷ put_of 256 128 output
    ∷ put_of 488 8 signature
    ∷ []

pub entry_from_chain : (e : CmdEntry) (input output signature : ℕ) (zeros bytes : List ℕ)
    → Chain (entry_puts e input output signature) zeros bytes
    → ((k : ℕ) → slice_index zeros k ≡ 0)
    → slice_range bytes 16 32 ≡ e.input
    → slice_range bytes 32 48 ≡ e.output
    → exclusive_or bytes ≡ 255
    → IsEntry e bytes
entry_from_chain e input output signature zeros bytes chain clear is_input is_output signed =
    let held = all_hold (entry_puts e input output signature) zeros bytes chain refl in
    let left : (bit width : ℕ) → is_apart bit width (entry_puts e input output signature) ≡ true → field_value bytes bit width ≡ 0 =
    λ bit width apart. untouched (entry_puts e input output signature) zeros bytes chain bit width apart ∙ field_value-zeros zeros clear bit width in
    record {
      type_seven = held.0;
      parts = record {
        in_len = held.1.0;
        in_ptr = held.1.1.0;
        input = is_input;
        output = is_output;
        out_ptr = held.1.1.1.0;
        out_len = held.1.1.1.1.0;
        token = held.1.1.1.1.1.0;
        status_own = held.1.1.1.1.1.1.0;
      };
      reserved = rw (left 8 24 refl, left 496 8 refl) refl;
      signed = signed;
    }

-- what stands after a copy, another copy and the signature
pub parts_kept : (b c d part : List ℕ) → length b ≡ 64 → length c ≡ 64 → length d ≡ 64
    → KeepsOtherBytes b c 32 16 → KeepsOtherBytes c d 61 1
    → slice_range b 16 32 ≡ part → slice_range d 16 32 ≡ part
parts_kept b c d part long_b long_c long_d second signed copied =
    kept_range c d 16 16 61 1 (long_d ∙ sym long_c) (omega arith) signed (inl (omega arith))
    ∙ kept_range b c 16 16 32 16 (long_c ∙ sym long_b) (omega arith) second (inl (omega arith))
    ∙ copied
