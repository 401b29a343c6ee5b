use Rattle.std.proofs.Common.{◌+◌, ◌<◌, ◌≤◌, length, slice_index, ap, ◌∙◌, arith}
use Rattle.std.proofs.lemmas.Bool.Decides.{nat_tests}
use Rattle.mlx5_dump.specs.declared.kind.TheConstants.{MOST_BYTES}
use Rattle.mlx5_dump.specs.Hex.{hex_text}
use Rattle.mlx5_dump.proofs.Digits.{digits_at, length-hex_text}
use Rattle.mlx5_dump.proofs.hex.bytes_of.Goals as goal

pub returns-then-place-digits-clause-none : goal.returns-then-place-digits-clause-none
returns-then-place-digits-clause-none c = λ bytes are few spells.
    let long = ap length spells in
    omega (arith, long, length-hex_text bytes, c.loop-place.invariant.place, c.if-place-digits.true)

pub returns-then-is_full-clause-none : goal.returns-then-is_full-clause-none
returns-then-is_full-clause-none c = λ bytes are few spells.
    let long = ap length spells in
    let full : MOST_BYTES ≤ length c.loop-place.bytes.items = grind (arith, nat_tests, c.is_full.ensures, c.if-is_full.true) in
    omega (arith, long, length-hex_text bytes, c.loop-place.invariant.place, c.loop-place-test.true, full, few)

pub returns-in_err-byte_of-clause-none : goal.returns-in_err-byte_of-clause-none
returns-in_err-byte_of-clause-none c = rw c.from_residual.ensures (λ bytes are few spells.
    let long = ap length spells in
    let k = length c.loop-place.bytes.items in
    let place = c.loop-place.invariant.place in
    let below : k < length bytes = omega (arith, long, length-hex_text bytes, place, c.loop-place-test.true) in
    let there = digits_at bytes k below in
    let high = ap (λ l. slice_index l c.loop-place.place) spells ∙ ap (slice_index (hex_text bytes)) place ∙ there.0 in
    let low = ap (λ l. slice_index l (c.loop-place.place + 1)) spells ∙ ap (λ n. slice_index (hex_text bytes) (n + 1)) place ∙ there.1 in
    c.in_err-byte_of.ensures.none (slice_index bytes k) (are k) high low)
