-- Where a queue's words lie, and what records and next segments say.
use Rattle.std.proofs.Common.{◌≡◌, ◌≢◌, ℕ, ◌+◌, ◌-◌, ◌*◌, ◌/◌, ◌%◌, ◌^◌, ◌<◌, ◌≤◌, inl, inr, refl, ap, sym, ◌∙◌, arith, leb, ltb, true}
use Rattle.std.proofs.Math.Nat.{mod-lt, mod-eq_of_lt, mul-le-mul_left, mul-suc}
use Rattle.std.proofs.Math.Pow.{pow_mono}
use Rattle.std.proofs.lemmas.Nat.{pow_pos}
use Rattle.std.proofs.lemmas.Bool.{and_from, and_parts, or_cases, or_left, or_right, leb-true, ltb-true, eqb-true, le-leb, lt-ltb, eq-eqb, cases_lt, cases_eq}
use Rattle.srq_list.specs.declared.place.SrqPlace.{SrqPlace}
use Rattle.srq_list.specs.Place.{IsPlace, size, entry_words, slot_of, next_at, entry_at, id_at, link_word, next_of, record_of, shown, is_in, touches}

pub some_slots : (place : SrqPlace) → 0 < size place
some_slots place = pow_pos place.log

pub few_slots : (place : SrqPlace) → IsPlace place → size place ≤ 2 ^ 16
few_slots place ok = pow_mono ok.few_slots

-- a number below the number of slots names itself
pub slot_is : (place : SrqPlace) (slot : ℕ) → slot < size place → slot_of place slot ≡ slot
slot_is place slot low = mod-eq_of_lt low

-- the slot that was stored in a next segment
pub next_is : (place : SrqPlace) (slot : ℕ) → IsPlace place → slot < size place → next_of place (link_word slot) ≡ slot
next_is place slot ok low =
    let whole : slot * 2 ^ 32 / 2 ^ 32 % 2 ^ 16 ≡ slot = omega (arith, low, few_slots place ok) in
    ap (slot_of place) whole ∙ slot_is place slot low

-- a record shows how many receives lie between its count and an earlier one
pub shown_is : (start earlier count word : ℕ) → earlier ≤ count → count < earlier + 2 ^ 16 → word ≡ record_of start count → shown (record_of start earlier) word ≡ count - earlier
shown_is start earlier count word low high same = omega (arith, low, high, same)

-- places of one stride, and words in it
product_apart : (s x y k l : ℕ) → k < s → x < y → s * x + k < s * y + l
product_apart s x y k l h low = omega (arith, h, mul-le-mul_left s low, mul-suc s x)

places_differ : (s x y k l : ℕ) → k < s → l < s → x ≢ y → s * x + k ≢ s * y + l
places_differ s x y k l hk hl ne same = elim (cases_lt x y) [
  | inl h ↦ omega (arith, product_apart s x y k l hk h, same)
  | inr h ↦ omega (arith, product_apart s y x l k hl (omega (arith, h, ne)), same)
]

module _ (place : SrqPlace) (ok : IsPlace place) where
  below : (n : ℕ) → slot_of place n < size place
  below n = mod-lt n (some_slots place)

  word_high : (n k : ℕ) → k < place.stride → place.base + place.stride * slot_of place n + k < place.base + place.stride * size place
  word_high n k h = omega (arith, product_apart place.stride (slot_of place n) (size place) k 0 h (below n))

  next_high : (n : ℕ) → next_at place n < place.base + place.stride * size place
  next_high n = omega (arith, word_high n 0 (omega (arith, ok.some_words)))

  entry_high : (n k : ℕ) → k < entry_words place → entry_at place n k < place.base + place.stride * size place
  entry_high n k h = omega (arith, word_high n (2 + k) (omega (arith, h)))

  pub next_below : (n : ℕ) → next_at place n < place.ids
  next_below n = omega (arith, next_high n, ok.slots_first)

  pub entry_below : (n k : ℕ) → k < entry_words place → entry_at place n k < place.ids
  entry_below n k h = omega (arith, entry_high n k h, ok.slots_first)

  pub id_low : (n : ℕ) → place.ids ≤ id_at place n
  id_low n = omega arith

  pub id_below : (n : ℕ) → id_at place n < place.dbr
  id_below n = omega (arith, below n, ok.ids_next)

  -- no word of an entry is that of a next index
  pub entry_not_next : (a b k : ℕ) → k < entry_words place → entry_at place a k ≢ next_at place b
  entry_not_next a b k h same = elim (cases_eq (slot_of place a) (slot_of place b)) [
    | inl e ↦ omega (arith, same, ap (λ x. place.stride * x) e)
    | inr ne ↦ places_differ place.stride (slot_of place a) (slot_of place b) (2 + k) 0 (omega (arith, h)) (omega (arith, ok.some_words)) ne (omega (arith, same))
  ]

  -- words of other slots, and other words of one
  pub entries_differ : (a b k l : ℕ) → a < size place → b < size place → k < entry_words place → l < entry_words place → (a ≡ b → k ≢ l) → entry_at place a k ≢ entry_at place b l
  entries_differ a b k l ha hb hk hl inner same = elim (cases_eq a b) [
    | inl e ↦ inner e (omega (arith, same, ap (λ x. place.stride * slot_of place x) e))
    | inr ne ↦
        let other : slot_of place a ≢ slot_of place b = λ e. ne (sym (slot_is place a ha) ∙ (e ∙ slot_is place b hb)) in
        places_differ place.stride (slot_of place a) (slot_of place b) (2 + k) (2 + l) (omega (arith, hk)) (omega (arith, hl)) other (omega (arith, same))
  ]

  pub nexts_differ : (a b : ℕ) → a < size place → b < size place → a ≢ b → next_at place a ≢ next_at place b
  nexts_differ a b ha hb ne same =
      let other : slot_of place a ≢ slot_of place b = λ e. ne (sym (slot_is place a ha) ∙ (e ∙ slot_is place b hb)) in
      places_differ place.stride (slot_of place a) (slot_of place b) 0 0 (omega (arith, ok.some_words)) (omega (arith, ok.some_words)) other (omega (arith, same))

  pub ids_differ : (a b : ℕ) → a < size place → b < size place → a ≢ b → id_at place a ≢ id_at place b
  ids_differ a b ha hb ne same = ne (sym (slot_is place a ha) ∙ (omega (arith, same) ∙ slot_is place b hb))

  pub touches_next : (n : ℕ) → touches place (next_at place n) ≡ true
  touches_next n = or_left _ _ (or_left _ _ (or_left _ _ (and_from _ _ (le-leb place.base (next_at place n) (omega arith)) (lt-ltb (next_at place n) (place.base + place.stride * size place) (next_high n)))))

  pub touches_entry : (n k : ℕ) → k < entry_words place → touches place (entry_at place n k) ≡ true
  touches_entry n k h = or_left _ _ (or_left _ _ (or_left _ _ (and_from _ _ (le-leb place.base (entry_at place n k) (omega arith)) (lt-ltb (entry_at place n k) (place.base + place.stride * size place) (entry_high n k h)))))

  pub touches_id : (n : ℕ) → touches place (id_at place n) ≡ true
  touches_id n = or_left _ _ (or_left _ _ (or_right _ _ (and_from _ _ (le-leb place.ids (id_at place n) (id_low n)) (lt-ltb (id_at place n) (place.ids + size place) (omega (arith, below n))))))

pub touches_record : (place : SrqPlace) → touches place place.dbr ≡ true
touches_record place = or_left _ _ (or_right _ _ (eq-eqb place.dbr place.dbr refl))

pub touches_tail : (place : SrqPlace) → touches place place.tail ≡ true
touches_tail place = or_right _ _ (eq-eqb place.tail place.tail refl)

-- the ranges of a queue's words
pub data Touches (place : SrqPlace) (a : ℕ) : Type 0 where
  in_slots : place.base ≤ a → a < place.base + place.stride * size place → Touches place a
  in_ids : place.ids ≤ a → a < place.ids + size place → Touches place a
  at_record : a ≡ place.dbr → Touches place a
  at_tail : a ≡ place.tail → Touches place a

in_range : (from count a : ℕ) → is_in from count a ≡ true → (from ≤ a) × (a < from + count)
in_range from count a h = let both = and_parts (leb from a) (ltb a (from + count)) h in (leb-true from a both.0, ltb-true a (from + count) both.1)

pub touched : (place : SrqPlace) (a : ℕ) → touches place a ≡ true → Touches place a
touched place a h = elim (or_cases _ _ h) [
  | inl not_tail ↦ elim (or_cases _ _ not_tail) [
    | inl not_record ↦ elim (or_cases _ _ not_record) [
      | inl slots ↦ let r = in_range place.base (place.stride * size place) a slots in in_slots r.0 r.1
      | inr ids ↦ let r = in_range place.ids (size place) a ids in in_ids r.0 r.1
    ]
    | inr dbr ↦ at_record (eqb-true a place.dbr dbr)
  ]
  | inr tail ↦ at_tail (eqb-true a place.tail tail)
]
