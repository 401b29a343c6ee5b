-- Rows of bytes that are 0, and how a byte string may go on after its first bytes.
use Rattle.std.proofs.Common.{◌≡◌, ℕ, zero, suc, ◌+◌, ◌-◌, ◌*◌, ◌/◌, ◌%◌, ◌^◌, ◌<◌, ◌≤◌, List, [], ◌∷◌, ◌++◌, length, take, replicate, slice_index, sym, ap, ◌∙◌, ⊎_elim, arith, length-append}
use Rattle.std.proofs.lemmas.Bool.{cases_lt}
use Rattle.std.proofs.lemmas.List.{take_at, take_all, length-take-le, length-replicate, get_or-take}
use Rattle.std.proofs.Math.ListN.{get_or-append}
use Rattle.std.proofs.Math.Seq.{get_or-append_right, get_or-append_seam}
use Rattle.prm_fields.specs.Bits.{bit_of, field_value}
use Rattle.prm_fields.proofs.Values.{field_value-same}
use Rattle.prm_fields.proofs.Chains.{field_value-zeros, zeros_read}
use Rattle.prm_fields.proofs.Parts.{field_value-take, byte_value}
use Rattle.prm_fields.proofs.Spelling.{bits_from_value}
use Rattle.cqe_format.specs.Bytes.{BeginAlike}
use Rattle.cqe_format.specs.Search.{IsClear}
use Rattle.cqe_format.proofs.Words.{AreBytes, bytes-cons, bytes-append}

-- two byte strings with the same bytes in a row have one value there
same_row : (a b : List ℕ) (first count : ℕ) → ((i : ℕ) → first ≤ i → i < first + count → slice_index a i ≡ slice_index b i) → field_value a (8 * first) (8 * count) ≡ field_value b (8 * first) (8 * count)
same_row a b first count same =
    field_value-same a b (8 * first) (8 * count) (λ k low high. ap (λ byte. byte / 2 ^ (7 - k % 8) % 2) (same (k / 8) (omega arith) (omega arith)))

pub row_clear : (bytes : List ℕ) (first count : ℕ) → IsClear bytes first (first + count) → field_value bytes (8 * first) (8 * count) ≡ 0
row_clear bytes first count clear =
    same_row bytes (replicate 64 0) first count (λ i low high. clear i low high ∙ sym (zeros_read 64 i))
    ∙ field_value-zeros (replicate 64 0) (zeros_read 64) (8 * first) (8 * count)

pub clear_row : (bytes : List ℕ) → AreBytes bytes → (first count : ℕ) → field_value bytes (8 * first) (8 * count) ≡ 0 → IsClear bytes first (first + count)
clear_row bytes small first count none i low high =
    let zeros : List ℕ = replicate 64 0 in
    let bits : (j : ℕ) → 8 * first ≤ j → j < 8 * first + 8 * count → bit_of bytes j ≡ bit_of zeros j =
    bits_from_value bytes zeros (8 * first) (8 * count) (none ∙ sym (field_value-zeros zeros (zeros_read 64) (8 * first) (8 * count))) in
    sym (byte_value bytes i (small i))
    ∙ field_value-same bytes zeros (8 * i) 8 (λ k from below. bits k (omega arith) (omega arith))
    ∙ field_value-zeros zeros (zeros_read 64) (8 * i) 8

bytes-take : (k : ℕ) (bytes : List ℕ) → AreBytes bytes → AreBytes (take k bytes)
bytes-take zero bytes small i = omega arith
bytes-take (suc k) [] small i = omega arith
bytes-take (suc k) (b ∷ bytes) small i = bytes-cons b (take k bytes) (small zero) (bytes-take k bytes (λ j. small (suc j))) i

bytes-zeros : (n : ℕ) → AreBytes (replicate n 0)
bytes-zeros n i = omega (arith, zeros_read n i)

bytes-last : (last : ℕ) → last < 256 → AreBytes (last ∷ [])
bytes-last last byte i = bytes-cons last [] byte (λ j. omega arith) i

-- the first bytes of a byte string, then zeros, and a last byte
pub going_on : List ℕ → ℕ → ℕ → List ℕ
going_on bytes k last = take k bytes ++ (replicate (63 - k) 0 ++ last ∷ [])

module _ (bytes : List ℕ) (long : length bytes ≡ 64) (k : ℕ) (inside : k ≤ 63) (last : ℕ) where
  front_long : length (take k bytes) ≡ k
  front_long = length-take-le k bytes (omega (arith, long))

  pub going_on-long : length (going_on bytes k last) ≡ 64
  unfolding going_on
  going_on-long =
      length-append (take k bytes) (replicate (63 - k) 0 ++ last ∷ [])
      ∙ omega (arith, front_long, length-append (replicate (63 - k) 0) (last ∷ []), length-replicate {A = ℕ} (63 - k) 0)

  pub going_on-small : AreBytes bytes → last < 256 → AreBytes (going_on bytes k last)
  unfolding going_on
  going_on-small small byte =
      bytes-append (take k bytes) (replicate (63 - k) 0 ++ last ∷ []) (bytes-take k bytes small)
      (bytes-append (replicate (63 - k) 0) (last ∷ []) (bytes-zeros (63 - k)) (bytes-last last byte))

  pub going_on-alike : BeginAlike k (going_on bytes k last) bytes
  unfolding going_on
  going_on-alike = take_at (take k bytes) (replicate (63 - k) 0 ++ last ∷ []) k front_long

  pub going_on-front : (i : ℕ) → i < k → slice_index (going_on bytes k last) i ≡ slice_index bytes i
  unfolding going_on
  going_on-front i low =
      get_or-append (take k bytes) (replicate (63 - k) 0 ++ last ∷ []) 0 i (omega (arith, front_long)) ∙ get_or-take k bytes i 0 low

  pub going_on-zero : (i : ℕ) → k ≤ i → i < 63 → slice_index (going_on bytes k last) i ≡ 0
  unfolding going_on
  going_on-zero i high low =
      get_or-append_right (take k bytes) (replicate (63 - k) 0 ++ last ∷ []) i 0 (omega (arith, front_long))
      ∙ get_or-append (replicate (63 - k) 0) (last ∷ []) 0 (i - length (take k bytes)) (omega (arith, front_long, length-replicate {A = ℕ} (63 - k) 0))
      ∙ zeros_read (63 - k) (i - length (take k bytes))

  pub going_on-last : slice_index (going_on bytes k last) 63 ≡ last
  unfolding going_on
  going_on-last =
      let place : 63 - length (take k bytes) ≡ length (replicate {A = ℕ} (63 - k) 0) = omega (arith, front_long, length-replicate {A = ℕ} (63 - k) 0) in
      get_or-append_right (take k bytes) (replicate (63 - k) 0 ++ last ∷ []) 63 0 (omega (arith, front_long))
      ∙ ap (λ n. slice_index (replicate (63 - k) 0 ++ last ∷ []) n) place
      ∙ get_or-append_seam (replicate (63 - k) 0) last [] 0

  -- a part that is 0 as far as the first bytes reach
  pub going_on-clear : (a b : ℕ) → b ≤ 63 → ((i : ℕ) → a ≤ i → i < b → i < k → slice_index bytes i ≡ 0) → IsClear (going_on bytes k last) a b
  going_on-clear a b low none i from below =
      ⊎_elim (λ front. going_on-front i front ∙ none i from below front) (λ rest. going_on-zero i rest (omega arith)) (cases_lt i k)

-- byte strings that begin alike
module _ (a b : List ℕ) (count : ℕ) (alike : BeginAlike count a b) where
  pub alike_byte : (i : ℕ) → i < count → slice_index a i ≡ slice_index b i
  alike_byte i low = sym (get_or-take count a i 0 low) ∙ ap (λ bytes. slice_index bytes i) alike ∙ get_or-take count b i 0 low

  pub alike_field : (first width : ℕ) → first + width ≤ 8 * count → field_value a first width ≡ field_value b first width
  alike_field first width inside = sym (field_value-take a count first width inside) ∙ ap (λ bytes. field_value bytes first width) alike ∙ field_value-take b count first width inside

-- 64 bytes that are alike are the same
pub alike_whole : (a b : List ℕ) → length a ≡ 64 → length b ≡ 64 → BeginAlike 64 a b → a ≡ b
alike_whole a b long_a long_b alike = sym (take_all 64 a (omega (arith, long_a))) ∙ alike ∙ take_all 64 b (omega (arith, long_b))

-- a part of a clear part
pub within : (bytes : List ℕ) (a b first end : ℕ) → IsClear bytes a b → a ≤ first → end ≤ b → IsClear bytes first end
within bytes a b first end clear low high i from below = clear i (omega arith) (omega arith)

pub joined : (bytes : List ℕ) (a b c : ℕ) → IsClear bytes a b → IsClear bytes b c → IsClear bytes a c
joined bytes a b c low high i from below = ⊎_elim (λ before. low i from before) (λ behind. high i behind below) (cases_lt i b)

pub one_clear : (bytes : List ℕ) (i : ℕ) → slice_index bytes i ≡ 0 → IsClear bytes i (i + 1)
one_clear bytes i none j low high = let here : j ≡ i = omega arith in rw here none
