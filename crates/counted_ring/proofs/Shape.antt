-- What holds of a queue's list alone: its counts stand in order, and its requests lie one behind the other, within the ring.
use Rattle.std.proofs.Common.{◌≡◌, ℕ, ◌+◌, ◌-◌, ◌*◌, ◌%◌, ◌^◌, ◌<◌, ◌≤◌, zero, suc, inl, inr, refl, ap, arith, cond, leb, length}
use Rattle.std.specs.Prelude.{slice_index}
use Rattle.std.proofs.Math.Nat.{mul-le-mul_left, mul-suc}
use Rattle.std.proofs.lemmas.Bool.{cases_Bool, cond_both}
use Rattle.counted_ring.specs.declared.place.WqPlace.{WqPlace}
use Rattle.counted_ring.specs.Place.{IsPlace, is_send, span, unit_blocks, most, all_words}
use Rattle.counted_ring.specs.Queue.{Queue, index_of}
use Rattle.counted_ring.proofs.Parts.{span_few}
use Rattle.counted_ring.proofs.Requests.{request_of, span_of, index_past}

-- the counts stand in order, and each request begins where the one before it ends
pub record Order (place : WqPlace) (q : Queue) : Type 0 where
  pub retired : q.retired ≤ q.taken
  pub taken : q.taken ≤ q.rung
  pub rung : q.rung ≤ length q.requests
  pub bound : length q.requests ≤ q.retired + place.max_post
  pub spaced : (n : ℕ) → n < length q.requests → index_of q (n + 1) ≡ index_of q n + span_of place q n

pub record Shape (place : WqPlace) (q : Queue) : Type 0 where
  pub order : Order place q
  pub few : length q.requests ≤ 2 ^ 62
  pub low : q.next < 2 ^ 63
  pub whole : (n : ℕ) → n < length q.requests → length (request_of q n).words ≡ all_words place (request_of q n).words

-- a product of numbers that are not 0
pub product_some : (a b : ℕ) → 0 < a → 0 < b → 0 < a * b
product_some a b ha hb = omega (arith, ha, hb, mul-le-mul_left a hb)

unit_some : (units : ℕ) → 0 < unit_blocks units
unit_some units =
    cond_both (leb units 4) 1 (cond (leb units 8) 2 (cond (leb units 12) 3 4)) (λ k. 0 < k) (λ t. omega arith)
    (λ t. cond_both (leb units 8) 2 (cond (leb units 12) 3 4) (λ k. 0 < k) (λ t. omega arith) (λ t. cond_both (leb units 12) 3 4 (λ k. 0 < k) (λ t. omega arith) (λ t. omega arith)))

pub span_some : (place : WqPlace) (first : ℕ) → 0 < span place first
span_some place first = elim (cases_Bool (is_send place)) [
  | inl send ↦ rw send (unit_some (first % 2 ^ 6))
  | inr receive ↦ rw receive (omega arith)
]

module _ (place : WqPlace) (q : Queue) (s : Order place q) where
  -- two requests with so many between them
  record IsBetween (n m k : ℕ) : Type 0 where
    low : index_of q n ≤ index_of q m
    high : index_of q m ≤ index_of q n + most place * k

  between : (k n m : ℕ) → n + k ≡ m → m ≤ length q.requests → IsBetween n m k
  between zero n m same inside =
      let e : index_of q n ≡ index_of q m = ap (index_of q) (omega (arith, same)) in
      record { low = omega (arith, e); high = omega (arith, e) }
  between (suc k) n m same inside =
      let rest = between k n (n + k) refl (omega (arith, same, inside)) in
      let step = s.spaced (n + k) (omega (arith, same, inside)) in
      let e : index_of q (n + k + 1) ≡ index_of q m = ap (index_of q) (omega (arith, same)) in
      record {
        low = omega (arith, rest.low, step, e);
        high = omega (arith, rest.high, step, e, span_few place (slice_index (request_of q (n + k)).words 0), mul-suc (most place) k);
      }

  pub rises : (n m : ℕ) → n ≤ m → m ≤ length q.requests → index_of q n ≤ index_of q m
  rises n m low high = (between (m - n) n m (omega (arith, low)) high).low

  -- the blocks of a request lie below those behind it
  pub rises_by : (n m : ℕ) → n < m → m ≤ length q.requests → index_of q n + span_of place q n ≤ index_of q m
  rises_by n m low high = omega (arith, rises (n + 1) m (omega (arith, low)) high, s.spaced n (omega (arith, low, high)))

  pub last_index : index_of q (length q.requests) ≡ q.next
  last_index = index_past q.requests q.next (length q.requests) (omega arith)

  all_retired : q.retired ≤ length q.requests
  all_retired = omega (arith, s.retired, s.taken, s.rung)

  live : IsBetween q.retired (length q.requests) (length q.requests - q.retired)
  live = between (length q.requests - q.retired) q.retired (length q.requests) (omega (arith, all_retired)) (omega arith)

  live_few : length q.requests - q.retired ≤ place.max_post
  live_few = omega (arith, s.bound)

  live_room : length q.requests < q.retired + place.max_post → suc (length q.requests - q.retired) ≤ place.max_post
  live_room room = omega (arith, room, all_retired)

  module _ (ok : IsPlace place) where
    -- the requests that are not retired take no more than all blocks
    pub window : q.next ≤ index_of q q.retired + place.blocks
    window = omega (arith, live.high, last_index, ok.room, mul-le-mul_left (most place) live_few)

    -- and where there is room for one more, for its blocks too
    pub room_high : length q.requests < q.retired + place.max_post → q.next + most place ≤ index_of q q.retired + place.blocks
    room_high room = omega (arith, live.high, last_index, ok.room, mul-suc (most place) (length q.requests - q.retired), mul-le-mul_left (most place) (live_room room))

    pub most_fits : length q.requests < q.retired + place.max_post → most place ≤ place.blocks
    most_fits room = omega (arith, room_high room, live.low, last_index)
