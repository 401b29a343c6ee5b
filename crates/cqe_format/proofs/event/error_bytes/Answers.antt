use Rattle.std.proofs.Common.{[], ◌∷◌, refl, replicate}
use Rattle.prm_fields.proofs.Chains.{Chain, put_of, zeros_read}
use Rattle.cqe_format.proofs.Encoding.{error_event_spelled}
use Rattle.cqe_format.proofs.event.error_bytes.Goals as goal

pub returns : goal.returns
returns c =
    let chain : Chain (put_of 8 8 4 ∷ put_of 256 32 c.args.cq ∷ []) (replicate 64 0) c.put-2.new.bytes = (
      c.put.new.bytes,
      c.put.ensures.stored,
      c.put.ensures.others,
      (c.put-2.new.bytes, c.put-2.ensures.stored, c.put-2.ensures.others, refl),
    )
    in
    error_event_spelled c.args.cq _ c.put-2.new.bytes chain (zeros_read 64)
