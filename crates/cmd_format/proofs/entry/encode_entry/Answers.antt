use Rattle.std.proofs.Common.{refl, sym, ◌∙◌, inl, arith, replicate}
use Rattle.prm_fields.specs.Bits.{field_value}
use Rattle.prm_fields.proofs.Chains.{Chain, zeros_read}
use Rattle.prm_fields.proofs.Parts.{bits_from_bytes, kept_range}
use Rattle.cmd_format.proofs.Entries.{entry_puts, entry_from_chain, parts_kept}
use Rattle.cmd_format.proofs.entry.encode_entry.Goals as goal

pub returns : goal.returns
returns c =
    let input = field_value c.copy_part.new.bytes 128 128 in
    let output = field_value c.copy_part-2.new.bytes 256 128 in
    let signature = field_value c.sign_entry.new.bytes 488 8 in
    let chain : Chain (entry_puts c.args.e.now input output signature) (replicate 64 0) c.sign_entry.new.bytes = (
      c.put.new.bytes,
      c.put.ensures.stored,
      c.put.ensures.others,
      (
        c.put-2.new.bytes,
        c.put-2.ensures.stored,
        c.put-2.ensures.others,
        (
          c.put-3.new.bytes,
          c.put-3.ensures.stored,
          c.put-3.ensures.others,
          (
            c.put-4.new.bytes,
            c.put-4.ensures.stored,
            c.put-4.ensures.others,
            (
              c.put-5.new.bytes,
              c.put-5.ensures.stored,
              c.put-5.ensures.others,
              (
                c.put-6.new.bytes,
                c.put-6.ensures.stored,
                c.put-6.ensures.others,
                (
                  c.put-7.new.bytes,
                  c.put-7.ensures.stored,
                  c.put-7.ensures.others,
                  (
                    c.copy_part.new.bytes,
                    refl,
                    bits_from_bytes _ _ _ _ c.copy_part.ensures.others,
                    (
                      c.copy_part-2.new.bytes,
                      refl,
                      bits_from_bytes _ _ _ _ c.copy_part-2.ensures.others,
                      (c.sign_entry.new.bytes, refl, bits_from_bytes _ _ _ _ c.sign_entry.ensures.others, refl),
                    ),
                  ),
                ),
              ),
            ),
          ),
        ),
      ),
    )
    in
    entry_from_chain c.args.e.now input output signature _ c.sign_entry.new.bytes chain (zeros_read 64)
    (parts_kept c.copy_part.new.bytes c.copy_part-2.new.bytes c.sign_entry.new.bytes _ c.copy_part.array_long c.copy_part-2.array_long c.sign_entry.array_long c.copy_part-2.ensures.others c.sign_entry.ensures.others c.copy_part.ensures.copied)
    (kept_range c.copy_part-2.new.bytes c.sign_entry.new.bytes 32 16 61 1 (c.sign_entry.array_long ∙ sym c.copy_part-2.array_long) (omega (arith, c.copy_part-2.array_long)) c.sign_entry.ensures.others (inl (omega arith)) ∙ c.copy_part-2.ensures.copied)
    c.sign_entry.ensures.signed
