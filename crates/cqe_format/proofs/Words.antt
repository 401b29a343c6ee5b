-- The bytes of words: what fields of them say of the words, and that words say all of the bytes.
use Rattle.std.proofs.Common.{◌≡◌, ℕ, zero, suc, ◌+◌, ◌-◌, ◌*◌, ◌/◌, ◌%◌, ◌^◌, ◌<◌, ◌≤◌, List, [], ◌∷◌, ◌++◌, length, take, drop, replicate, slice_index, refl, sym, ap, ◌∙◌, arith, add-one}
use Rattle.std.specs.Int.{w64, to_be_bytes, byte_at, bytes_high_first}
use Rattle.std.proofs.lemmas.Nat.{mod-pow-add, mod_below, mod_low, shr_high, pow-add}
use Rattle.std.proofs.lemmas.List.{drop_at, drop-replicate, take_at, take_all, append-nil, length-take-le}
use Rattle.std.proofs.lemmas.Grind.{flat_map-append}
use Rattle.std.proofs.Math.Seq.{take-suc, drop-append-add}
use Rattle.std.proofs.Math.Nat.{pow-suc, mod-eq_of_lt}
use Rattle.prm_fields.specs.Bits.{field_value}
use Rattle.prm_fields.proofs.Values.{field_value-add, field_value-lt}
use Rattle.prm_fields.proofs.Parts.{field_value-drop, byte_value}
use Rattle.prm_fields.proofs.Spelling.{bits_from_value, same_from_bits}
use Rattle.cqe_format.specs.Bytes.{entry_bytes}

-- each is a byte
abbrev pub AreBytes : List ℕ → Type 0
AreBytes bytes = (k : ℕ) → slice_index bytes k < 256

pub bytes-cons : (b : ℕ) (bytes : List ℕ) → b < 256 → AreBytes bytes → AreBytes (b ∷ bytes)
bytes-cons b bytes small rest zero = small
bytes-cons b bytes small rest (suc k) = rest k

pub bytes-append : (a b : List ℕ) → AreBytes a → AreBytes b → AreBytes (a ++ b)
bytes-append [] b small_a small_b = small_b
bytes-append (x ∷ a) b small_a small_b = bytes-cons x (a ++ b) (small_a zero) (bytes-append a b (λ k. small_a (suc k)) small_b)

byte_at-lt : (k w : ℕ) → byte_at k w < 256
byte_at-lt zero w = mod_below w 256 (omega arith)
byte_at-lt (suc k) w = mod_below (w / 256 ^ suc k) 256 (omega arith)

high_bytes : (n w : ℕ) → AreBytes (bytes_high_first n w)
high_bytes zero w k = omega arith
high_bytes (suc n) w k = bytes-cons (byte_at n w) (bytes_high_first n w) (byte_at-lt n w) (high_bytes n w) k

pub entry_bytes-small : (words : List ℕ) → AreBytes (entry_bytes words)
entry_bytes-small [] k = omega arith
entry_bytes-small (w ∷ words) k = bytes-append (to_be_bytes w64 w) (entry_bytes words) (high_bytes 8 w) (entry_bytes-small words) k

pub length-entry_bytes : (words : List ℕ) → length (entry_bytes words) ≡ 8 * length words
length-entry_bytes [] = refl
length-entry_bytes (w ∷ words) = let induction = length-entry_bytes words in omega (arith, induction)

pow_256 : (k : ℕ) → 256 ^ k ≡ 2 ^ (8 * k)
pow_256 zero = refl
pow_256 (suc k) =
    let width : 8 * suc k ≡ 8 * k + 8 = omega arith in
    rw (width, pow-suc, pow_256 k, pow-add) (omega arith)

byte_at-shifted : (k w : ℕ) → byte_at k w ≡ w / 2 ^ (8 * k) % 256
byte_at-shifted zero w = omega arith
byte_at-shifted (suc k) w = ap (λ p. w / p % 256) (pow_256 (suc k))

-- the bytes of a number, the highest first, spell its low part
high_value : (n w : ℕ) (rest : List ℕ) → field_value (bytes_high_first n w ++ rest) 0 (8 * n) ≡ w % 2 ^ (8 * n)
unfolding field_value
high_value zero w rest = omega arith
high_value (suc n) w rest =
    let bytes = bytes_high_first n w ++ rest in
    let width : 8 * suc n ≡ 8 + 8 * n = omega arith in
    let first : field_value (byte_at n w ∷ bytes) 0 8 ≡ byte_at n w = byte_value (byte_at n w ∷ bytes) 0 (byte_at-lt n w) in
    let behind : field_value (byte_at n w ∷ bytes) 8 (8 * n) ≡ field_value bytes 0 (8 * n) = sym (field_value-drop (byte_at n w ∷ bytes) 1 0 (8 * n)) in
    let split = field_value-add (byte_at n w ∷ bytes) 0 8 (8 * n) in
    let induction = high_value n w rest in
    let shifted = byte_at-shifted n w in
    let parts = mod-pow-add w 8 (8 * n) in
    rw width (split ∙ ap (λ b. b * 2 ^ (8 * n) + field_value (byte_at n w ∷ bytes) 8 (8 * n)) (first ∙ shifted) ∙ ap (λ r. w / 2 ^ (8 * n) % 256 * 2 ^ (8 * n) + r) (behind ∙ induction) ∙ sym parts)

-- word k of the bytes of words
pub word_value : (words : List ℕ) (k : ℕ) → k < length words → field_value (entry_bytes words) (64 * k) 64 ≡ slice_index words k % 2 ^ 64
word_value [] k inside = absurd (omega arith)
word_value (w ∷ words) zero inside = high_value 8 w (entry_bytes words)
word_value (w ∷ words) (suc k) inside =
    let place : 64 * suc k ≡ 8 * 8 + 64 * k = omega arith in
    let front : drop 8 (entry_bytes (w ∷ words)) ≡ entry_bytes words = drop_at (to_be_bytes w64 w) (entry_bytes words) 8 refl in
    rw place
    (sym (field_value-drop (entry_bytes (w ∷ words)) 8 (64 * k) 64)
    ∙ ap (λ bytes. field_value bytes (64 * k) 64) front
    ∙ word_value words k (omega arith))

-- 64 bytes are known from their eight words
pub same_from_words : (a b : List ℕ) → length a ≡ 64 → length b ≡ 64 → AreBytes a → AreBytes b → ((k : ℕ) → k < 8 → field_value a (64 * k) 64 ≡ field_value b (64 * k) 64) → a ≡ b
same_from_words a b long_a long_b small_a small_b same =
    same_from_bits a b (long_a ∙ sym long_b) small_a small_b
    (λ k inside. bits_from_value a b (64 * (k / 64)) 64 (same (k / 64) (omega (arith, long_a))) k (omega arith) (omega arith))

-- a field of a field
pub part_value : (bytes : List ℕ) (first before width after : ℕ) → field_value bytes (first + before) width ≡ field_value bytes first (before + width + after) / 2 ^ after % 2 ^ width
part_value bytes first before width after =
    let last = field_value-lt bytes (first + (before + width)) after in
    let high : field_value bytes first (before + width + after) / 2 ^ after ≡ field_value bytes first (before + width) =
    ap (λ n. n / 2 ^ after) (field_value-add bytes first (before + width) after) ∙ shr_high _ after _ last in
    let here = field_value-lt bytes (first + before) width in
    sym (ap (λ n. n % 2 ^ width) (high ∙ field_value-add bytes first before width) ∙ mod_low _ width _ here)

-- the words of 64 bytes spell them again
pub spelled_again : (words bytes : List ℕ) → length words ≡ 8 → length bytes ≡ 64 → AreBytes bytes
    → ((k : ℕ) → k < 8 → slice_index words k ≡ field_value bytes (64 * k) 64) → entry_bytes words ≡ bytes
spelled_again words bytes eight long small each =
    same_from_words (entry_bytes words) bytes (length-entry_bytes words ∙ omega (arith, eight)) long (entry_bytes-small words) small
    (λ k inside.
    let below : slice_index words k < 2 ^ 64 = rw (each k inside) (field_value-lt bytes (64 * k) 64) in
    word_value words k (omega (arith, eight)) ∙ mod-eq_of_lt below ∙ each k inside)

-- zeros over which the first k words are copied
pub copied : List ℕ → ℕ → List ℕ
copied words k = entry_bytes (take k words) ++ replicate (64 - 8 * k) 0

length-front : (words : List ℕ) (k : ℕ) → k ≤ length words → length (entry_bytes (take k words)) ≡ 8 * k
length-front words k inside = length-entry_bytes (take k words) ∙ omega (arith, length-take-le k words inside)

pub copied_next : (words old new : List ℕ) (k : ℕ) → length words ≡ 8 → k < 8 → old ≡ copied words k
    → new ≡ take (8 * k) old ++ to_be_bytes w64 (slice_index words k) ++ drop (8 * k + 8) old → new ≡ copied words (k + 1)
unfolding copied
copied_next words old new k eight inside was is =
    let front = entry_bytes (take k words) in
    let long : length front ≡ 8 * k = length-front words k (omega (arith, eight)) in
    let kept : take (8 * k) old ≡ front = ap (take (8 * k)) was ∙ take_at front (replicate (64 - 8 * k) 0) (8 * k) long in
    let rest : drop (8 * k + 8) old ≡ replicate (64 - 8 * (k + 1)) 0 =
    ap (drop (8 * k + 8)) was
    ∙ ap (λ n. drop (n + 8) (front ++ replicate (64 - 8 * k) 0)) (sym long)
    ∙ drop-append-add front (replicate (64 - 8 * k) 0) 8
    ∙ drop-replicate 8 (64 - 8 * k) 0
    ∙ ap (λ n. replicate n 0) (omega arith) in
    let next : entry_bytes (take (k + 1) words) ≡ front ++ to_be_bytes w64 (slice_index words k) =
    ap (λ n. entry_bytes (take n words)) (add-one k)
    ∙ ap entry_bytes (take-suc words k 0 (omega (arith, eight)))
    ∙ flat_map-append (to_be_bytes w64) (take k words) (slice_index words k ∷ [])
    ∙ ap (λ bytes. front ++ bytes) (append-nil (to_be_bytes w64 (slice_index words k))) in
    is ∙ rw (kept, rest, next) refl

pub copied_none : (words : List ℕ) → replicate 64 0 ≡ copied words 0
unfolding copied
copied_none words = refl

pub copied_all : (words : List ℕ) → length words ≡ 8 → copied words 8 ≡ entry_bytes words
unfolding copied
copied_all words eight = append-nil (entry_bytes (take 8 words)) ∙ ap entry_bytes (take_all 8 words (omega (arith, eight)))

-- the last byte of an entry, in its last word
pub owner_of_word : (bytes : List ℕ) (word : ℕ) → word ≡ field_value bytes 448 64 → word % 2 ≡ field_value bytes 511 1
owner_of_word bytes word last = ap (λ n. n % 2) last ∙ sym (part_value bytes 448 63 1 0 ∙ omega arith)

pub opcode_of_word : (bytes : List ℕ) (word : ℕ) → word ≡ field_value bytes 448 64 → word / 16 % 16 ≡ field_value bytes 504 4
opcode_of_word bytes word last = ap (λ n. n / 16 % 16) last ∙ sym (part_value bytes 448 56 4 4)
