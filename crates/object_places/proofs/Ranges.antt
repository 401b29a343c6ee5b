-- The ranges of each queue's words.
use Rattle.std.proofs.Common.{◌≡◌, ℕ, ◌+◌, ◌^◌, ◌<◌, ◌≤◌, inl, inr, arith, true}
use Rattle.std.proofs.Math.Pow.{pow_mono}
use Rattle.verbs_types.specs.declared.declaration.CqLine.{CqLine}
use Rattle.verbs_types.specs.declared.declaration.QpLine.{QpLine}
use Rattle.actor_map.specs.Sizes.{stride, cq_words, qp_words, send_words, receive_words}
use Rattle.owner_ring.specs.Place as ring
use Rattle.owner_ring.proofs.Slots as ring_slots
use Rattle.cq_pair.specs.Place.{ring_of}
use Rattle.counted_ring.specs.Place.{touches}
use Rattle.counted_ring.proofs.Slots.{in_ring, in_ids, in_heads, at_tail, at_record, at_register, touched}
use Rattle.object_places.specs.Places.{place_from, receives_from, completions_from}
use Rattle.object_places.proofs.Fine.{Some_same}
use Rattle.object_places.proofs.Strides.{one_more}

-- words from this one on, up to that one
pub record Lies (from to a : ℕ) : Type 0 where
  pub low : from ≤ a
  pub high : a < to

-- the words of a send queue stand before the receive queue, and behind its record word
pub data InSends (first : ℕ) (line : QpLine) (a : ℕ) : Type 0 where
  before : first ≤ a → a < first + send_words line → InSends first line a
  behind : first + send_words line + receive_words line < a → a < first + qp_words line → InSends first line a

pub in_completions : (cq first : ℕ) (line : CqLine) (a : ℕ) → line.log ≤ line.ceiling → ring.touches (ring_of (completions_from cq first line)) a ≡ true → Lies first (first + cq_words line) a
in_completions cq first line a log h =
    let entries : 2 ^ line.log ≤ 2 ^ line.ceiling = pow_mono log in
    elim (ring_slots.touched (ring_of (completions_from cq first line)) a h) [
      | inl both ↦ record { low = omega (arith, both.0); high = omega (arith, both.1, entries) }
      | inr is ↦ record { low = omega (arith, is); high = omega (arith, is) }
    ]

pub in_sends : (first : ℕ) (line : QpLine) (a : ℕ) → touches (place_from first line) a ≡ true → InSends first line a
in_sends first line a h = elim (touched (place_from first line) a h) [
  | in_ring low high ↦ before (omega (arith, low)) (omega (arith, high))
  | in_ids low high ↦ before (omega (arith, low)) (omega (arith, high))
  | in_heads send low high ↦ before (omega (arith, low)) (omega (arith, high))
  | at_tail is ↦ before (omega (arith, is)) (omega (arith, is))
  | at_record is ↦ behind (omega (arith, is)) (omega (arith, is))
  | at_register is ↦ let same : first + send_words line + receive_words line + 2 ≡ a = Some_same is in behind (omega (arith, same)) (omega (arith, same))
]

-- a send queue's words are its queue pair's
pub sends_lie : (first : ℕ) (line : QpLine) (a : ℕ) → InSends first line a → Lies first (first + qp_words line) a
sends_lie first line a h = elim h [
  | before low high ↦ record { low = low; high = omega (arith, high) }
  | behind low high ↦ record { low = omega (arith, low); high = high }
]

pub in_receives : (first : ℕ) (line : QpLine) (a : ℕ) → touches (receives_from first line) a ≡ true → Lies (first + send_words line) (first + send_words line + receive_words line + 1) a
in_receives first line a h =
    let more = one_more (stride line.segments) (2 ^ line.recv_log) in
    elim (touched (receives_from first line) a h) [
      | in_ring low high ↦ record { low = low; high = omega (arith, high, more) }
      | in_ids low high ↦ record { low = omega (arith, low); high = omega (arith, high, more) }
      | in_heads send low high ↦ absurd cc
      | at_tail is ↦ record { low = omega (arith, is); high = omega (arith, is) }
      | at_record is ↦ record { low = omega (arith, is); high = omega (arith, is) }
      | at_register is ↦ absurd cc
    ]
