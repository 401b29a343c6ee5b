-- Arithmetic of blocks, counters and records, and where a queue's words lie.
use Rattle.std.proofs.Common.{◌≡◌, ◌≢◌, ℕ, ◌+◌, ◌-◌, ◌*◌, ◌/◌, ◌%◌, ◌^◌, ◌<◌, ◌≤◌, inl, inr, refl, ap, sym, arith, leb, ltb, true, Option, Some, None}
use Rattle.std.proofs.Math.Nat.{mod-lt, mul-le-mul_left, mul-suc, mod-mod_of_dvd, dvd_of_mod-eq-zero}
use Rattle.std.proofs.lemmas.Bool.{and_from, and_parts, or_cases, leb-true, ltb-true, eqb-true, or_left, or_right, le-leb, lt-ltb, eq-eqb, cases_lt, cases_Bool, cases_eq}
use Rattle.bus_core.proofs.Remainders.{remainders}
use Rattle.counted_ring.specs.declared.place.WqPlace.{WqPlace}
use Rattle.counted_ring.specs.Place.{IsPlace, is_in, is_register, is_send, word_at, id_at, head_at, record_of, shown, outstanding, is_in, touches}

-- the blocks of one window have places of their own
pub blocks_differ : (low a b blocks : ℕ) → low ≤ a → a < low + blocks → low ≤ b → b < low + blocks → a ≢ b → a % blocks ≢ b % blocks
blocks_differ low a b blocks la ah lb bh ne = elim (cases_lt a b) [
  | inl h ↦ remainders a b blocks h (omega (arith, la, bh))
  | inr h ↦ let d = remainders b a blocks (omega (arith, h, ne)) (omega (arith, lb, ah)) in λ e. d (sym e)
]

-- a counter of 16 bits tells its block
pub low_bits : (place : WqPlace) (i : ℕ) → IsPlace place → i % 2 ^ 16 % place.blocks ≡ i % place.blocks
low_bits place i ok = mod-mod_of_dvd place.blocks i (dvd_of_mod-eq-zero place.blocks ok.divides)

-- the record shows how many blocks lie between two indices of a window
pub shown_is : (from i word : ℕ) → from ≤ i → i < from + 2 ^ 16 → from < 2 ^ 63 → word ≡ record_of i → shown from word ≡ i - from
shown_is from i word low high small same = omega (arith, low, high, small, same)

pub outstanding_is : (head tail : ℕ) → tail ≤ head → head < 2 ^ 62 → outstanding head tail ≡ head - tail
outstanding_is head tail low small = omega (arith, low, small)

-- places of one stride, and words in it
product_apart : (s x y k l : ℕ) → k < s → x < y → s * x + k < s * y + l
product_apart s x y k l h low = omega (arith, h, mul-le-mul_left s low, mul-suc s x)

pub places_differ : (s x y k l : ℕ) → k < s → l < s → x ≢ y → s * x + k ≢ s * y + l
places_differ s x y k l hk hl ne same = elim (cases_lt x y) [
  | inl h ↦ omega (arith, product_apart s x y k l hk h, same)
  | inr h ↦ omega (arith, product_apart s y x l k hl (omega (arith, h, ne)), same)
]

pub id_low : (place : WqPlace) (n : ℕ) → place.ids ≤ id_at place n
id_low place n = omega arith

module _ (place : WqPlace) (ok : IsPlace place) where
  block_below : (n : ℕ) → n % place.blocks < place.blocks
  block_below n = mod-lt n ok.some_blocks

  -- the words of a window's blocks are apart: they have another block, or another place in it
  pub words_differ : (low i j k l : ℕ) → low ≤ i → i + k / place.stride < low + place.blocks → low ≤ j → j + l / place.stride < low + place.blocks
      → (i + k / place.stride ≡ j + l / place.stride → k % place.stride ≢ l % place.stride) → word_at place i k ≢ word_at place j l
  words_differ low i j k l li hi lj hj inner same =
      let a : ℕ = i + k / place.stride in
      let b : ℕ = j + l / place.stride in
      let sum : place.stride * (a % place.blocks) + k % place.stride ≡ place.stride * (b % place.blocks) + l % place.stride = omega (arith, same) in
      let in_k : k % place.stride < place.stride = mod-lt k ok.some_stride in
      let in_l : l % place.stride < place.stride = mod-lt l ok.some_stride in
      elim (cases_eq a b) [
        | inl e ↦
            let r : a % place.blocks ≡ b % place.blocks = ap (λ x. x % place.blocks) e in
            inner e (omega (arith, sum, ap (λ x. place.stride * x) r))
        | inr ne ↦ places_differ place.stride (a % place.blocks) (b % place.blocks) (k % place.stride) (l % place.stride) in_k in_l
            (blocks_differ low a b place.blocks (omega (arith, li)) hi (omega (arith, lj)) hj ne) sum
      ]

  pub word_low : (n k : ℕ) → place.ring ≤ word_at place n k
  word_low n k = omega arith

  pub word_high : (n k : ℕ) → word_at place n k < place.ring + place.stride * place.blocks
  word_high n k = omega (arith, product_apart place.stride ((n + k / place.stride) % place.blocks) place.blocks (k % place.stride) 0 (mod-lt k ok.some_stride) (block_below (n + k / place.stride)))

  pub word_below : (n k : ℕ) → word_at place n k < place.ids
  word_below n k = omega (arith, word_high n k, ok.ring_first)

  pub id_high : (n : ℕ) → id_at place n < place.ids + place.blocks
  id_high n = omega (arith, block_below n)

  ids_below : place.ids + place.blocks ≤ place.tail
  ids_below = elim (cases_Bool (is_send place)) [
    | inl send ↦ let tail : place.heads + place.blocks ≤ place.tail = rw send at ok.tail_next in omega (arith, ok.heads_next send, tail)
    | inr receive ↦ rw receive at ok.tail_next
  ]

  pub id_below : (n : ℕ) → id_at place n < place.tail
  id_below n = omega (arith, id_high n, ids_below)

  module _ (send : is_send place ≡ true) where
    heads_below : place.heads + place.blocks ≤ place.tail
    heads_below = rw send at ok.tail_next

    pub id_before_heads : (n j : ℕ) → id_at place n < head_at place j
    id_before_heads n j = omega (arith, id_high n, ok.heads_next send)

    pub head_high : (n : ℕ) → head_at place n < place.heads + place.blocks
    head_high n = omega (arith, block_below n)

    pub head_below : (n : ℕ) → head_at place n < place.tail
    head_below n = omega (arith, head_high n, heads_below)

    pub touches_head : (n : ℕ) → touches place (head_at place n) ≡ true
    touches_head n =
        let at_head : is_in place.heads place.blocks (head_at place n) ≡ true = and_from _ _ (le-leb place.heads (head_at place n) (omega arith)) (lt-ltb (head_at place n) (place.heads + place.blocks) (head_high n)) in
        or_left _ _ (or_left _ _ (or_left _ _ (or_right _ _ (and_from _ _ send at_head))))

  pub touches_word : (n k : ℕ) → touches place (word_at place n k) ≡ true
  touches_word n k = or_left _ _ (or_left _ _ (or_left _ _ (or_left _ _ (or_left _ _
      (and_from _ _ (le-leb place.ring (word_at place n k) (word_low n k)) (lt-ltb (word_at place n k) (place.ring + place.stride * place.blocks) (word_high n k)))))))

  pub touches_id : (n : ℕ) → touches place (id_at place n) ≡ true
  touches_id n = or_left _ _ (or_left _ _ (or_left _ _ (or_left _ _ (or_right _ _
      (and_from _ _ (le-leb place.ids (id_at place n) (id_low place n)) (lt-ltb (id_at place n) (place.ids + place.blocks) (id_high n)))))))

  -- blocks of one window have ids and head words of their own
  pub ids_differ : (low i j : ℕ) → low ≤ i → i < low + place.blocks → low ≤ j → j < low + place.blocks → i ≢ j → id_at place i ≢ id_at place j
  ids_differ low i j li hi lj hj ne same = blocks_differ low i j place.blocks li hi lj hj ne (omega (arith, same))

  pub heads_differ : (low i j : ℕ) → low ≤ i → i < low + place.blocks → low ≤ j → j < low + place.blocks → i ≢ j → head_at place i ≢ head_at place j
  heads_differ low i j li hi lj hj ne same = blocks_differ low i j place.blocks li hi lj hj ne (omega (arith, same))

pub touches_tail : (place : WqPlace) → touches place place.tail ≡ true
touches_tail place = or_left _ _ (or_left _ _ (or_right _ _ (eq-eqb place.tail place.tail refl)))

pub touches_record : (place : WqPlace) → touches place place.dbr ≡ true
touches_record place = or_left _ _ (or_right _ _ (eq-eqb place.dbr place.dbr refl))

register_here : (reg : Option ℕ) (a : ℕ) → reg ≡ Some a → is_register reg a ≡ true
register_here None a same = absurd cc
register_here (Some r) a same = eq-eqb a r (let is : r ≡ a = cc in sym is)

pub touches_register : (place : WqPlace) (a : ℕ) → place.reg ≡ Some a → touches place a ≡ true
touches_register place a same = or_right _ _ (register_here place.reg a same)

-- the ranges of a queue's words
pub data Touches (place : WqPlace) (a : ℕ) : Type 0 where
  in_ring : place.ring ≤ a → a < place.ring + place.stride * place.blocks → Touches place a
  in_ids : place.ids ≤ a → a < place.ids + place.blocks → Touches place a
  in_heads : is_send place ≡ true → place.heads ≤ a → a < place.heads + place.blocks → Touches place a
  at_tail : a ≡ place.tail → Touches place a
  at_record : a ≡ place.dbr → Touches place a
  at_register : place.reg ≡ Some a → Touches place a

in_range : (from count a : ℕ) → is_in from count a ≡ true → (from ≤ a) × (a < from + count)
in_range from count a h = let both = and_parts (leb from a) (ltb a (from + count)) h in (leb-true from a both.0, ltb-true a (from + count) both.1)

is_that_register : (reg : Option ℕ) (a : ℕ) → is_register reg a ≡ true → reg ≡ Some a
is_that_register None a h = absurd cc
is_that_register (Some r) a h = ap (λ x. Some x) (sym (eqb-true a r h))

pub touched : (place : WqPlace) (a : ℕ) → touches place a ≡ true → Touches place a
touched place a h = elim (or_cases _ _ h) [
  | inl not_register ↦ elim (or_cases _ _ not_register) [
    | inl not_record ↦ elim (or_cases _ _ not_record) [
      | inl not_tail ↦ elim (or_cases _ _ not_tail) [
        | inl blocks ↦ elim (or_cases _ _ blocks) [
          | inl ring ↦ let r = in_range place.ring (place.stride * place.blocks) a ring in in_ring r.0 r.1
          | inr ids ↦ let r = in_range place.ids place.blocks a ids in in_ids r.0 r.1
        ]
        | inr heads ↦
            let both = and_parts (is_send place) (is_in place.heads place.blocks a) heads in
            let r = in_range place.heads place.blocks a both.1 in in_heads both.0 r.0 r.1
      ]
      | inr tail ↦ at_tail (eqb-true a place.tail tail)
    ]
    | inr dbr ↦ at_record (eqb-true a place.dbr dbr)
  ]
  | inr register ↦ at_register (is_that_register place.reg a register)
]
