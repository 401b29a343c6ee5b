-- Units, their words and their bytes.
use Rattle.std.proofs.Common.{◌≡◌, ℕ, zero, suc, ◌+◌, ◌-◌, ◌*◌, ◌<◌, ◌≤◌, ◌≢◌, List, [], ◌++◌, length, take, drop, slice_index, slice_set, slice_range, refl, sym, ap, ◌∙◌, arith, append-nil, length-append, ◌⊎◌, ⊎_elim, append_assoc, zero-add}
use Rattle.std.proofs.lemmas.Bool.{cases_lt}
use Rattle.std.specs.Int.{w64, to_be_bytes, from_be_bytes}
use Rattle.std.proofs.lemmas.List.{take_at, take_all, drop_all, drop-drop, take-append-drop, get_or-set_same, get_or-set_other, length-set, length-drop, length-take, get_or-take, get_or-drop, get_or_past}
use Rattle.std.proofs.lemmas.Nat.{be_bytes_8}
use borrow.Rule.Slice.PartMut.{put_mid}
use Rattle.work_entries.specs.Unit.{unit, units, word_bytes, KeepsOtherWords}

pub length-word_bytes : (word : ℕ) → length (word_bytes word) ≡ 8
unfolding word_bytes
length-word_bytes word = refl

pub word_bytes-is : (word : ℕ) → word_bytes word ≡ to_be_bytes w64 word
unfolding word_bytes
word_bytes-is word = refl

-- the word that eight bytes spell has these bytes
pub word_bytes_read : (bytes : List ℕ) (word : ℕ) → length bytes ≡ 8 → ((i : ℕ) → slice_index bytes i < 256) → word ≡ from_be_bytes w64 bytes → word_bytes word ≡ bytes
unfolding word_bytes
word_bytes_read bytes word long small is = be_bytes_8 bytes word long small is

-- the items of a part are items of the whole
pub small_part : (bytes : List ℕ) (from count : ℕ) → ((i : ℕ) → slice_index bytes i < 256) → (i : ℕ) → slice_index (take count (drop from bytes)) i < 256
small_part bytes from count small i =
    ⊎_elim
    (λ inside. rw (get_or-take count (drop from bytes) i 0 inside, get_or-drop from bytes i 0) (small (from + i)))
    (λ (past : count ≤ i).
    let end : slice_index (take count (drop from bytes)) i ≡ 0 = get_or_past (take count (drop from bytes)) i 0 (omega (arith, length-take count (drop from bytes))) in
    rw end (omega arith))
    (cases_lt i count)

-- 16 bytes, of which each half was written
pub two_halves : (first rest second : List ℕ) → length first ≡ 8 → length rest ≡ 8 → put_mid 8 8 (first ++ rest) second ≡ first ++ second
two_halves first rest second long_first long_rest =
    let none : drop 8 (drop 8 (first ++ rest)) ≡ [] = drop-drop 8 8 (first ++ rest) ∙ drop_all 16 (first ++ rest) (omega (arith, length-append first rest)) in
    rw (take_at first rest 8 long_first, none, append-nil second) refl

-- a unit whose words spell the halves of 16 bytes
pub unit_put : (words bytes : List ℕ) (k high low : ℕ) → length bytes ≡ 16 → 2 * k + 2 ≤ length words
    → word_bytes high ≡ slice_range bytes 0 8 → word_bytes low ≡ slice_range bytes 8 16
    → unit (slice_set (slice_set words (2 * k) high) (2 * k + 1) low) k ≡ bytes
unfolding unit
unit_put words bytes k high low long inside is_high is_low =
    let first = slice_set words (2 * k) high in
    let other : 2 * k ≢ 2 * k + 1 = omega arith in
    let room : 2 * k + 1 < length first = omega (arith, length-set words (2 * k) high) in
    let at_high : slice_index (slice_set first (2 * k + 1) low) (2 * k) ≡ high =
    get_or-set_other first (2 * k + 1) (2 * k) low 0 other ∙ get_or-set_same words (2 * k) high 0 (omega arith) in
    let at_low : slice_index (slice_set first (2 * k + 1) low) (2 * k + 1) ≡ low = get_or-set_same first (2 * k + 1) low 0 room in
    let rest : take 8 (drop 8 bytes) ≡ drop 8 bytes = take_all 8 (drop 8 bytes) (omega (arith, length-drop 8 bytes)) in
    ap (λ w. word_bytes w ++ word_bytes (slice_index (slice_set first (2 * k + 1) low) (2 * k + 1))) at_high
    ∙ ap (λ w. word_bytes high ++ word_bytes w) at_low
    ∙ rw (is_high, is_low, rest) (take-append-drop 8 bytes)

-- a unit apart from the words that changed
pub unit_kept : (old new : List ℕ) (first count k : ℕ) → KeepsOtherWords old new first count → (2 * k + 2 ≤ first) ⊎ (first + count ≤ 2 * k) → unit new k ≡ unit old k
unfolding unit
unit_kept old new first count k kept apart =
    let word : (j : ℕ) → 2 * k ≤ j → j < 2 * k + 2 → slice_index new j ≡ slice_index old j =
    λ j low high. ⊎_elim (λ before. kept.before j (omega arith)) (λ after. kept.after j (omega arith)) apart in
    ap (λ w. word_bytes w ++ word_bytes (slice_index new (2 * k + 1))) (word (2 * k) (omega arith) (omega arith))
    ∙ ap (λ w. word_bytes (slice_index old (2 * k)) ++ word_bytes w) (word (2 * k + 1) (omega arith) (omega arith))

-- two changes side by side
pub words_joined : (old mid new : List ℕ) (first m next n : ℕ) → next ≡ first + m → KeepsOtherWords old mid first m → KeepsOtherWords mid new next n → KeepsOtherWords old new first (m + n)
words_joined old mid new first m next n place earlier later = record {
  before = λ k low. later.before k (omega arith) ∙ earlier.before k low;
  after = λ k high. later.after k (omega arith) ∙ earlier.after k (omega arith);
}

pub length-unit : (words : List ℕ) (k : ℕ) → length (unit words k) ≡ 16
unfolding unit
length-unit words k =
    let high = word_bytes (slice_index words (2 * k)) in
    let low = word_bytes (slice_index words (2 * k + 1)) in
    length-append high low ∙ omega (arith, length-word_bytes (slice_index words (2 * k)), length-word_bytes (slice_index words (2 * k + 1)))

pub length-units : (words : List ℕ) (k count : ℕ) → length (units words k count) ≡ 16 * count
length-units words k zero = refl
length-units words k (suc count) = length-append (unit words k) (units words (suc k) count) ∙ omega (arith, length-unit words k, length-units words (suc k) count)

-- units behind units
pub units-add : (words : List ℕ) (k m n next : ℕ) → next ≡ k + m → units words k (m + n) ≡ units words k m ++ units words next n
units-add words k zero n next is =
    let here : k ≡ next = omega arith in
    ap (units words k) (zero-add n) ∙ ap (λ j. units words j n) here
units-add words k (suc m) n next is =
    let count : suc m + n ≡ suc (m + n) = omega arith in
    ap (units words k) count
    ∙ ap (λ u. unit words k ++ u) (units-add words (suc k) m n next (omega arith))
    ∙ sym (append_assoc (unit words k) (units words (suc k) m) (units words next n))

-- one more unit
pub units_more : (words : List ℕ) (k count next : ℕ) → next ≡ k + count → units words k (count + 1) ≡ units words k count ++ unit words next
units_more words k count next is = units-add words k count 1 next is ∙ ap (λ u. units words k count ++ u) (append-nil (unit words next))

-- the first units of more
pub units_front : (words : List ℕ) (k m n : ℕ) → m ≤ n → take (16 * m) (units words k n) ≡ units words k m
units_front words k m n less =
    let split : n ≡ m + (n - m) = omega arith in
    ap (λ c. take (16 * m) (units words k c)) split
    ∙ ap (take (16 * m)) (units-add words k m (n - m) (k + m) refl)
    ∙ take_at (units words k m) (units words (k + m) (n - m)) (16 * m) (length-units words k m)

-- units are known from their words
pub units_same : (old new : List ℕ) (k count : ℕ) → ((j : ℕ) → k ≤ j → j < k + count → unit new j ≡ unit old j) → units new k count ≡ units old k count
units_same old new k zero same = refl
units_same old new k (suc count) same =
    ap (λ u. u ++ units new (suc k) count) (same k (omega arith) (omega arith))
    ∙ ap (λ u. unit old k ++ u) (units_same old new (suc k) count (λ j low high. same j (omega arith) (omega arith)))
