use Rattle.std.proofs.Common.{refl, ◌∙◌, replicate}
use Rattle.prm_fields.proofs.Chains.{Chain, zeros_read}
use Rattle.cqe_format.proofs.Encoding.{bool_byte-cond, success_puts, success_spelled}
use Rattle.cqe_format.proofs.completion.success_bytes.Goals as goal

pub returns : goal.returns
returns c =
    let chain : Chain (success_puts c.args.c.now) (replicate 64 0) c.put-8.new.bytes = (
      c.put.new.bytes,
      c.put.ensures.stored,
      c.put.ensures.others,
      (
        c.put-2.new.bytes,
        c.put-2.ensures.stored,
        c.put-2.ensures.others,
        (
          c.put-3.new.bytes,
          c.put-3.ensures.stored,
          c.put-3.ensures.others,
          (
            c.put-4.new.bytes,
            c.put-4.ensures.stored,
            c.put-4.ensures.others,
            (
              c.put-5.new.bytes,
              c.put-5.ensures.stored,
              c.put-5.ensures.others,
              (
                c.put-6.new.bytes,
                c.put-6.ensures.stored,
                c.put-6.ensures.others,
                (
                  c.put-7.new.bytes,
                  c.put-7.ensures.stored,
                  c.put-7.ensures.others,
                  (c.put-8.new.bytes, c.put-8.ensures.stored ∙ bool_byte-cond c.args.c.now.solicited, c.put-8.ensures.others, refl),
                ),
              ),
            ),
          ),
        ),
      ),
    )
    in
    success_spelled c.args.c.now _ c.put-8.new.bytes c.requires chain (zeros_read 64)
