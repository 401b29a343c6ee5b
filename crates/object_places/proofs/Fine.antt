-- Each queue lies as its crate asks for.
use Rattle.std.proofs.Common.{◌≡◌, ℕ, ◌+◌, ◌^◌, ◌≤◌, inr, arith, Some}
use Rattle.std.proofs.Math.Pow.{pow_mono}
use Rattle.verbs_types.specs.declared.declaration.CqLine.{CqLine}
use Rattle.verbs_types.specs.declared.declaration.QpLine.{QpLine}
use Rattle.actor_map.specs.Limits.{IsQpSize}
use Rattle.actor_map.specs.Sizes.{stride, cq_words, send_words, receive_words}
use Rattle.owner_ring.specs.Place as ring
use Rattle.cq_pair.specs.Place.{ring_of}
use Rattle.counted_ring.specs.Place.{IsPlace}
use Rattle.object_places.specs.Places.{place_from, receives_from, completions_from, AreWithin}
use Rattle.object_places.proofs.Strides.{divides, divides_by_four, stride_short, one_more, pow_some}

pub Some_same : {a b : ℕ} → Some a ≡ Some b → a ≡ b
Some_same is = cc

pub sends_fine : (first : ℕ) (line : QpLine) → IsQpSize line → IsPlace (place_from first line)
sends_fine first line size =
    let few : 2 ^ line.send_log ≤ 2 ^ 8 = pow_mono size.0 in
    let some = pow_some line.send_log in
    record {
      some_blocks = omega (arith, some);
      few_blocks = omega (arith, few);
      divides = divides_by_four line.send_log size.0;
      some_stride = omega arith;
      few_words = omega arith;
      room = omega arith;
      ring_first = omega arith;
      heads_next = λ send. omega arith;
      tail_next = omega arith;
      record_next = omega arith;
      register_last = λ r is. let same : first + send_words line + receive_words line + 2 ≡ r = Some_same is in omega (arith, same);
    }

pub receives_fine : (first : ℕ) (line : QpLine) → IsQpSize line → IsPlace (receives_from first line)
receives_fine first line size =
    let few : 2 ^ line.recv_log ≤ 2 ^ 8 = pow_mono size.1 in
    let some = pow_some line.recv_log in
    let short = stride_short line.segments in
    record {
      some_blocks = omega (arith, some);
      few_blocks = omega (arith, few);
      divides = divides line.recv_log (omega (arith, size.1));
      some_stride = short.some;
      few_words = omega (arith, short.few);
      room = omega arith;
      ring_first = omega arith;
      heads_next = λ send. absurd cc;
      tail_next = omega (arith, one_more (stride line.segments) (2 ^ line.recv_log));
      record_next = omega arith;
      register_last = λ r is. absurd cc;
    }

pub completions_fine : (cq first : ℕ) (line : CqLine) → line.ceiling ≤ 12 → line.log ≤ line.ceiling → first + cq_words line ≤ 2 ^ 32 → ring.IsPlace (ring_of (completions_from cq first line))
completions_fine cq first line ceiling log fits =
    let entries : 2 ^ line.log ≤ 2 ^ line.ceiling = pow_mono log in
    record { small = omega (arith, ceiling, log); fits = omega (arith, entries, fits); apart = inr (omega (arith, entries)) }

pub completions_within : (cq first words : ℕ) (line : CqLine) → line.log ≤ line.ceiling → first + cq_words line ≤ words → AreWithin words (completions_from cq first line)
completions_within cq first words line log fits =
    let entries : 2 ^ line.log ≤ 2 ^ line.ceiling = pow_mono log in
    record { ring = omega (arith, entries, fits); record_word = omega (arith, fits); arms = omega (arith, fits) }
