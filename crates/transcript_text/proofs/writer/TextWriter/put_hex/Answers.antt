use Rattle.std.proofs.Common.{◌≡◌, subst, arith}
use Rattle.transcript_text.proofs.HexLemmas.{none_written, one_written, all_written, IsWrittenTo}
use Rattle.transcript_text.proofs.writer.TextWriter.put_hex.Goals as goal

pub loop-place-init : goal.loop-place-init
loop-place-init c = none_written c.args.self.now c.args.digits c.args.number

pub loop-place-preserved : goal.loop-place-preserved
loop-place-preserved c k e =
    let step = one_written c.args.self.now c.loop-place.self c.args.digits c.args.number c.loop-place.place (omega arith) (omega arith) c.loop-place.invariant k e in
    cc (step, c.in_ok-put_byte.ensures, c.hex_digit.ensures)

pub returns : goal.returns
returns c = let done : c.loop-place.place ≡ 0 = omega arith in all_written _ _ _ _ (subst (λ p. IsWrittenTo c.args.self.now c.loop-place.self c.args.digits c.args.number p) done c.loop-place.invariant)
