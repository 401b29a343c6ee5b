-- A key is printed as it stands.
use Rattle.std.proofs.Common.{◌≡◌, ℕ, zero, suc, ◌+◌, ◌-◌, ◌*◌, ◌/◌, ◌%◌, ◌==◌, ◌<◌, ◌≤◌, Bool, true, false, true≢false, ◌&&◌, nat_le, nat_lt, nat_eq, cond, List, [], ◌∷◌, ◌++◌, codes, length, drop, append_assoc, IsTrue, is_some, Option, None, Some, unwrap_or, slice_index, refl, sym, ap, ap₂, ◌∙◌, arith}
use Rattle.std.specs.List.{starts_with}
use Rattle.std.proofs.lemmas.Bool.{and_parts, leb-true, eqb-true}
use Rattle.std.proofs.lemmas.Bool.Decides.{nat_tests, Decides-eqb}
use Rattle.std.proofs.lemmas.Option.{same_Some}
use Rattle.std.proofs.lemmas.Slice.Eq.{starts_is}
use Rattle.std.proofs.Math.ListN.{drop_of_length-le}
use Rattle.scenario_text.specs.Requests.{hex, hex_digit, key_text}
use Rattle.scenario_text.specs.Text as text
use Rattle.scenario_text.proofs.Events.{drop_here}
use Rattle.scenario_text.specs.Text.{Field, joined, pair_at, half_at, has_key_form, read_key}

-- the digit of a value is the byte that it was read from
record IsDigit (b v : ℕ) : Type 0 where
  small : v < 16
  is : hex_digit v ≡ b

digit_is : (b v : ℕ) → text.hex_digit b ≡ Some v → IsDigit b v
digit_is b v h = by (nat_le 48 b && nat_le b 57) (nat_le 97 b && nat_le b 102) refl refl h
  where
    by : (decimal letter : Bool) → (nat_le 48 b && nat_le b 57) ≡ decimal → (nat_le 97 b && nat_le b 102) ≡ letter
        → (cond decimal (Some (b - 48)) (cond letter (Some (b - 97 + 10)) None)) ≡ Some v → IsDigit b v
    by true letter d l h =
        let low : 48 ≤ b = leb-true 48 b (and_parts (nat_le 48 b) (nat_le b 57) d).0 in
        let high : b ≤ 57 = leb-true b 57 (and_parts (nat_le 48 b) (nat_le b 57) d).1 in
        let same : b - 48 ≡ v = cc in
        record { small = omega (arith, same, high); is = below v (nat_lt v 10) refl (omega (arith, same, low)) (omega (arith, same, high)) }
      where
        below : (v : ℕ) (small : Bool) → nat_lt v 10 ≡ small → 48 + v ≡ b → v < 10 → cond small (48 + v) (87 + v) ≡ b
        below v true is e lt = e
        below v false is e lt = absurd (grind (arith, nat_tests))
    by false true d l h =
        let low : 97 ≤ b = leb-true 97 b (and_parts (nat_le 97 b) (nat_le b 102) l).0 in
        let high : b ≤ 102 = leb-true b 102 (and_parts (nat_le 97 b) (nat_le b 102) l).1 in
        let same : b - 97 + 10 ≡ v = cc in
        record { small = omega (arith, same, high); is = above v (nat_lt v 10) refl (omega (arith, same, low)) (omega (arith, same, low)) }
      where
        above : (v : ℕ) (small : Bool) → nat_lt v 10 ≡ small → 87 + v ≡ b → 10 ≤ v → cond small (48 + v) (87 + v) ≡ b
        above v true is e le = absurd (grind (arith, nat_tests))
        above v false is e le = e
    by false false d l h = absurd (cc)

-- the last digit, and those before it
hex_more : (k high low v : ℕ) → v ≡ high * 16 + low → low < 16 → hex (suc k) v ≡ hex k high ++ hex_digit low ∷ []
unfolding hex
hex_more k high low v is small =
    let front : v / 16 ≡ high = omega (arith, is, small) in
    let last : v % 16 ≡ low = omega (arith, is, small) in
    ap₂ (λ h l. hex k h ++ hex_digit l ∷ []) front last

-- two values that were joined
record IsJoined (size : ℕ) (high low : Option ℕ) (v : ℕ) : Type 0 where
  first : ℕ
  second : ℕ
  high_is : high ≡ Some first
  low_is : low ≡ Some second
  value : v ≡ first * size + second

joined_is : (size : ℕ) (high low : Option ℕ) (v : ℕ) → joined size high low ≡ Some v → IsJoined size high low v
joined_is size (Some h) (Some l) v e = record { first = h; second = l; high_is = refl; low_is = refl; value = sym (same_Some (h * size + l) v e) }
joined_is size None low v e = absurd (cc)
joined_is size (Some h) None v e = absurd (cc)

module _ (field : Field) where
  pair_printed : (place k x v : ℕ) → pair_at field place ≡ Some v → hex (suc (suc k)) (x * 256 + v) ≡ hex k x ++ slice_index field place ∷ slice_index field (place + 1) ∷ []
  pair_printed place k x v is =
      let j = joined_is 16 (text.hex_digit (slice_index field place)) (text.hex_digit (slice_index field (place + 1))) v is in
      let high = digit_is (slice_index field place) j.first j.high_is in
      let low = digit_is (slice_index field (place + 1)) j.second j.low_is in
      hex_more (suc k) (x * 16 + j.first) j.second (x * 256 + v) (omega (arith, j.value)) low.small
      ∙ ap₂ (λ front b. front ++ b ∷ []) (hex_more k x j.first (x * 16 + j.first) refl high.small ∙ ap (λ b. hex k x ++ b ∷ []) high.is) low.is
      ∙ append_assoc (hex k x) (slice_index field place ∷ []) (slice_index field (place + 1) ∷ [])

  abbrev four : ℕ → List ℕ
  four place = slice_index field place ∷ slice_index field (place + 1) ∷ slice_index field (place + 2) ∷ slice_index field (place + 2 + 1) ∷ []

  half_printed : (place k x v : ℕ) → half_at field place ≡ Some v → hex (suc (suc (suc (suc k)))) (x * 65536 + v) ≡ hex k x ++ four place
  half_printed place k x v is =
      let j = joined_is 256 (pair_at field place) (pair_at field (place + 2)) v is in
      ap (hex (suc (suc (suc (suc k))))) (omega (arith, j.value)) ∙ pair_printed (place + 2) (suc (suc k)) (x * 256 + j.first) j.second j.low_is
      ∙ ap (λ front. front ++ slice_index field (place + 2) ∷ slice_index field (place + 2 + 1) ∷ []) (pair_printed place k x j.first j.high_is)
      ∙ append_assoc (hex k x) (slice_index field place ∷ slice_index field (place + 1) ∷ []) (slice_index field (place + 2) ∷ slice_index field (place + 2 + 1) ∷ [])

  nothing : hex 0 0 ≡ []
  unfolding hex
  nothing = refl

  word_printed : (v : ℕ) → joined 65536 (half_at field 1) (half_at field 5) ≡ Some v → hex 8 v ≡ four 1 ++ four 5
  word_printed v is =
      let j = joined_is 65536 (half_at field 1) (half_at field 5) v is in
      let front : j.first ≡ 0 * 65536 + j.first = omega arith in
      ap (hex 8) j.value ∙ half_printed 5 4 j.first j.second j.low_is ∙ ap (λ front. front ++ four 5) (ap (hex 4) front ∙ half_printed 1 0 0 j.first j.high_is ∙ ap (λ none. none ++ four 1) nothing)

  abbrev bytes_from : ℕ → ℕ → List ℕ
  bytes_from place zero = []
  bytes_from place (suc n) = slice_index field place ∷ bytes_from (place + 1) n

  bytes_all : (place n : ℕ) → length field ≡ place + n → bytes_from place n ≡ drop place field
  bytes_all place zero h = sym (drop_of_length-le field (omega (arith, h)))
  bytes_all place (suc n) h =
      let one : suc place ≡ place + 1 = omega arith in
      ap (λ (rest : List ℕ). slice_index field place ∷ rest) (bytes_all (place + 1) n (omega (arith, h)) ∙ ap (λ k. drop k field) (sym one)) ∙ sym (drop_here field place 0 (omega (arith, h)))

  pub key_printed : IsTrue (is_some (read_key field)) → key_text (unwrap_or (read_key field) 0) ≡ field
  key_printed some = by (has_key_form field) refl (joined 65536 (half_at field 1) (half_at field 5)) refl some
    where
      by : (formed : Bool) → has_key_form field ≡ formed → (value : Option ℕ) → joined 65536 (half_at field 1) (half_at field 5) ≡ value → IsTrue (is_some (cond formed value None))
          → key_text (unwrap_or (cond formed value None) 0) ≡ field
      by false is value read h = absurd (true≢false (sym h))
      by true is None read h = absurd (true≢false (sym h))
      by true is (Some v) read h =
          let parts = and_parts (length field == 9) (starts_with nat_eq field (codes "#")) is in
          let begins = (starts_is Decides-eqb field (codes "#") (starts_with nat_eq field (codes "#")) refl).0 parts.1 in
          ap (λ (ds : List ℕ). 35 ∷ ds) (word_printed v read ∙ bytes_all 1 8 (eqb-true (length field) 9 parts.0)) ∙ sym begins
