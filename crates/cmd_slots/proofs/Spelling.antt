-- The bytes of words.
use Rattle.std.proofs.Common.{◌≡◌, ℕ, zero, suc, ◌+◌, ◌*◌, ◌/◌, ◌%◌, ◌^◌, ◌<◌, ◌≤◌, List, [], ◌∷◌, ◌++◌, length, take, drop, get_or, refl, sym, ap, ◌∙◌, arith, length-append}
use Rattle.std.specs.Int.{w64, to_be_bytes, byte_at, bytes_high_first}
use Rattle.std.proofs.lemmas.Nat.{mod-pow-add, mod_below, mod_low, shr_high, pow-add}
use Rattle.std.proofs.lemmas.List.{drop_at, take_at, take-append-drop, take_more, append-nil}
use Rattle.std.proofs.lemmas.Grind.{flat_map-append}
use Rattle.std.proofs.Math.Nat.{pow-suc, mod-eq_of_lt}
use Rattle.prm_fields.specs.Bits.{field_value}
use Rattle.prm_fields.proofs.Values.{field_value-add, field_value-lt}
use Rattle.prm_fields.proofs.Parts.{field_value-drop, field_value-take, byte_value}
use Rattle.prm_fields.proofs.Spelling.{bits_from_value, same_from_bits}
use Rattle.cmd_slots.specs.Bytes.{bytes_of}

pub bytes_of-nil : bytes_of [] ≡ []
unfolding bytes_of
bytes_of-nil = refl

pub bytes_of-cons : (w : ℕ) (words : List ℕ) → bytes_of (w ∷ words) ≡ to_be_bytes w64 w ++ bytes_of words
unfolding bytes_of
bytes_of-cons w words = refl

pub bytes_of-append : (a b : List ℕ) → bytes_of (a ++ b) ≡ bytes_of a ++ bytes_of b
unfolding bytes_of
bytes_of-append a b = flat_map-append (to_be_bytes w64) a b

pub length-bytes_of : (words : List ℕ) → length (bytes_of words) ≡ 8 * length words
length-bytes_of [] = ap length bytes_of-nil
length-bytes_of (w ∷ words) = ap length (bytes_of-cons w words) ∙ length-append (to_be_bytes w64 w) (bytes_of words) ∙ omega (arith, length-bytes_of words)

-- each is a byte
abbrev pub AreBytes : List ℕ → Type 0
AreBytes bytes = (k : ℕ) → get_or bytes k 0 < 256

bytes-cons : (b : ℕ) (bytes : List ℕ) → b < 256 → AreBytes bytes → AreBytes (b ∷ bytes)
bytes-cons b bytes small rest zero = small
bytes-cons b bytes small rest (suc k) = rest k

bytes-append : (a b : List ℕ) → AreBytes a → AreBytes b → AreBytes (a ++ b)
bytes-append [] b small_a small_b = small_b
bytes-append (x ∷ a) b small_a small_b = bytes-cons x (a ++ b) (small_a zero) (bytes-append a b (λ k. small_a (suc k)) small_b)

byte_at-lt : (k w : ℕ) → byte_at k w < 256
byte_at-lt zero w = mod_below w 256 (omega arith)
byte_at-lt (suc k) w = mod_below (w / 256 ^ suc k) 256 (omega arith)

high_bytes : (n w : ℕ) → AreBytes (bytes_high_first n w)
high_bytes zero w k = omega arith
high_bytes (suc n) w k = bytes-cons (byte_at n w) (bytes_high_first n w) (byte_at-lt n w) (high_bytes n w) k

pub bytes_of-small : (words : List ℕ) → AreBytes (bytes_of words)
bytes_of-small [] k = rw bytes_of-nil (omega arith)
bytes_of-small (w ∷ words) k = rw bytes_of-cons (bytes-append (to_be_bytes w64 w) (bytes_of words) (high_bytes 8 w) (bytes_of-small words) k)

pow_256 : (k : ℕ) → 256 ^ k ≡ 2 ^ (8 * k)
pow_256 zero = refl
pow_256 (suc k) =
    let width : 8 * suc k ≡ 8 * k + 8 = omega arith in
    rw (width, pow-suc, pow_256 k, pow-add) (omega arith)

byte_at-shifted : (k w : ℕ) → byte_at k w ≡ w / 2 ^ (8 * k) % 256
byte_at-shifted zero w = omega arith
byte_at-shifted (suc k) w = ap (λ p. w / p % 256) (pow_256 (suc k))

-- the bytes of a number, the highest first, spell its low part
high_value : (n w : ℕ) (rest : List ℕ) → field_value (bytes_high_first n w ++ rest) 0 (8 * n) ≡ w % 2 ^ (8 * n)
unfolding field_value
high_value zero w rest = omega arith
high_value (suc n) w rest =
    let bytes = bytes_high_first n w ++ rest in
    let width : 8 * suc n ≡ 8 + 8 * n = omega arith in
    let first : field_value (byte_at n w ∷ bytes) 0 8 ≡ byte_at n w = byte_value (byte_at n w ∷ bytes) 0 (byte_at-lt n w) in
    let behind : field_value (byte_at n w ∷ bytes) 8 (8 * n) ≡ field_value bytes 0 (8 * n) = sym (field_value-drop (byte_at n w ∷ bytes) 1 0 (8 * n)) in
    let split = field_value-add (byte_at n w ∷ bytes) 0 8 (8 * n) in
    let induction = high_value n w rest in
    let shifted = byte_at-shifted n w in
    let parts = mod-pow-add w 8 (8 * n) in
    rw width (split ∙ ap (λ b. b * 2 ^ (8 * n) + field_value (byte_at n w ∷ bytes) 8 (8 * n)) (first ∙ shifted) ∙ ap (λ r. w / 2 ^ (8 * n) % 256 * 2 ^ (8 * n) + r) (behind ∙ induction) ∙ sym parts)

-- word k of the bytes of words
pub word_value : (words : List ℕ) (k : ℕ) → k < length words → field_value (bytes_of words) (64 * k) 64 ≡ get_or words k 0 % 2 ^ 64
word_value [] k inside = absurd (omega arith)
word_value (w ∷ words) zero inside = ap (λ bytes. field_value bytes 0 64) (bytes_of-cons w words) ∙ high_value 8 w (bytes_of words)
word_value (w ∷ words) (suc k) inside =
    let place : 64 * suc k ≡ 8 * 8 + 64 * k = omega arith in
    let front : drop 8 (bytes_of (w ∷ words)) ≡ bytes_of words = ap (drop 8) (bytes_of-cons w words) ∙ drop_at (to_be_bytes w64 w) (bytes_of words) 8 refl in
    rw place
    (sym (field_value-drop (bytes_of (w ∷ words)) 8 (64 * k) 64)
    ∙ ap (λ bytes. field_value bytes (64 * k) 64) front
    ∙ word_value words k (omega arith))

-- byte strings of whole words are known from their words
pub same_from_words : (count : ℕ) (a b : List ℕ) → length a ≡ 8 * count → length b ≡ 8 * count → AreBytes a → AreBytes b → ((k : ℕ) → k < count → field_value a (64 * k) 64 ≡ field_value b (64 * k) 64) → a ≡ b
same_from_words count a b long_a long_b small_a small_b same =
    same_from_bits a b (long_a ∙ sym long_b) small_a small_b
    (λ k inside. bits_from_value a b (64 * (k / 64)) 64 (same (k / 64) (omega (arith, long_a))) k (omega arith) (omega arith))

-- the words of a byte string spell it again
pub spelled_again : (words bytes : List ℕ) → length bytes ≡ 8 * length words → AreBytes bytes
    → ((k : ℕ) → k < length words → get_or words k 0 ≡ field_value bytes (64 * k) 64) → bytes_of words ≡ bytes
spelled_again words bytes long small each =
    same_from_words (length words) (bytes_of words) bytes (length-bytes_of words) long (bytes_of-small words) small
    (λ k inside.
    let below : get_or words k 0 < 2 ^ 64 = rw (each k inside) (field_value-lt bytes (64 * k) 64) in
    word_value words k inside ∙ mod-eq_of_lt below ∙ each k inside)

-- a field in the first part of a byte string
pub field_of_front : (a b : List ℕ) (first width : ℕ) → first + width ≤ 8 * length a → field_value (a ++ b) first width ≡ field_value a first width
field_of_front a b first width inside =
    sym (field_value-take (a ++ b) (length a) first width inside) ∙ ap (λ bytes. field_value bytes first width) (take_at a b (length a) refl)

-- a field in the first of some words
pub field_of_first : (words : List ℕ) (count first width : ℕ) → length (take count words) ≡ count → first + width ≤ 64 * count → field_value (bytes_of (take count words)) first width ≡ field_value (bytes_of words) first width
field_of_first words count first width long inside =
    let whole : bytes_of words ≡ bytes_of (take count words) ++ bytes_of (drop count words) = ap bytes_of (sym (take-append-drop count words)) ∙ bytes_of-append (take count words) (drop count words) in
    sym (ap (λ bytes. field_value bytes first width) whole ∙ field_of_front (bytes_of (take count words)) (bytes_of (drop count words)) first width (omega (arith, inside, length-bytes_of (take count words), long)))

-- a field of a field
pub part_value : (bytes : List ℕ) (first before width after : ℕ) → field_value bytes (first + before) width ≡ field_value bytes first (before + width + after) / 2 ^ after % 2 ^ width
part_value bytes first before width after =
    let last = field_value-lt bytes (first + (before + width)) after in
    let high : field_value bytes first (before + width + after) / 2 ^ after ≡ field_value bytes first (before + width) =
    ap (λ n. n / 2 ^ after) (field_value-add bytes first (before + width) after) ∙ shr_high _ after _ last in
    let here = field_value-lt bytes (first + before) width in
    sym (ap (λ n. n % 2 ^ width) (high ∙ field_value-add bytes first before width) ∙ mod_low _ width _ here)

-- a field of word k
pub word_part : (words : List ℕ) (k before width after : ℕ) → k < length words → before + width + after ≡ 64 → field_value (bytes_of words) (64 * k + before) width ≡ get_or words k 0 % 2 ^ 64 / 2 ^ after % 2 ^ width
word_part words k before width after inside whole =
    part_value (bytes_of words) (64 * k) before width after
    ∙ ap (λ n. field_value (bytes_of words) (64 * k) n / 2 ^ after % 2 ^ width) whole
    ∙ ap (λ n. n / 2 ^ after % 2 ^ width) (word_value words k inside)

-- the second half of the first word
pub low_half : (words : List ℕ) → 0 < length words → field_value (bytes_of words) 32 32 ≡ get_or words 0 0 % 2 ^ 32
low_half words some =
    let word = word_value words 0 some in
    let half = part_value (bytes_of words) 0 32 32 0 in
    omega (arith, half, word)

-- one word more
pub bytes_of-more : (words : List ℕ) (k : ℕ) → k < length words → bytes_of (take (k + 1) words) ≡ bytes_of (take k words) ++ to_be_bytes w64 (get_or words k 0)
bytes_of-more words k inside =
    ap bytes_of (take_more words k 0 inside) ∙ bytes_of-append (take k words) (get_or words k 0 ∷ [])
    ∙ ap (λ bytes. bytes_of (take k words) ++ bytes) (bytes_of-cons (get_or words k 0) [] ∙ ap (λ bytes. to_be_bytes w64 (get_or words k 0) ++ bytes) bytes_of-nil ∙ append-nil (to_be_bytes w64 (get_or words k 0)))
