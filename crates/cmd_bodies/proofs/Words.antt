-- The words of a byte string as a list of 88 numbers.
use Rattle.std.proofs.Common.{◌≡◌, ℕ, zero, suc, ◌+◌, ◌*◌, ◌<◌, nat_lt, cond, List, length, slice_index, slice_set, refl, sym, ap, ◌∙◌, ⊎_elim, arith, add-zero, get_or-set_same, get_or-set_other}
use Rattle.std.proofs.lemmas.Bool.{cases_eq, lt-ltb}
use Rattle.std.proofs.lemmas.Bool.Decides.{nat_tests}
use Rattle.std.proofs.lemmas.Grind.{same_number_lists}
use Rattle.prm_fields.specs.Bits.{field_value}
use Rattle.cmd_bodies.specs.Command.{words_from}

-- word j of a list of words
abbrev pub word_at : List ℕ → ℕ → ℕ → ℕ
word_at bytes n j = cond (nat_lt j n) (field_value bytes (64 * j) 64) 0

pub length-words_from : (bytes : List ℕ) (n k more : ℕ) → length (words_from bytes n k more) ≡ more
unfolding words_from
length-words_from bytes n k zero = refl
length-words_from bytes n k (suc more) = ap suc (length-words_from bytes n (k + 1) more)

pub words_from-read : (bytes : List ℕ) (n k more j : ℕ) → j < more → slice_index (words_from bytes n k more) j ≡ word_at bytes n (k + j)
unfolding words_from
words_from-read bytes n k zero j low = absurd (omega arith)
words_from-read bytes n k (suc more) zero low = ap (word_at bytes n) (sym (add-zero k))
words_from-read bytes n k (suc more) (suc j) low =
    words_from-read bytes n (k + 1) more j (omega arith) ∙ ap (word_at bytes n) (omega arith)

below_same : (j k : ℕ) → (j ≡ k → ⊥) → nat_lt j k ≡ nat_lt j (k + 1)
below_same j k apart = grind (arith, nat_tests)

pub word_at-none : (bytes : List ℕ) (j : ℕ) → word_at bytes 0 j ≡ 0
word_at-none bytes j = grind (arith, nat_tests)

-- one more word has been read
pub words_more : (bytes pages : List ℕ) (k word : ℕ) → k < length pages → word ≡ field_value bytes (64 * k) 64
    → ((j : ℕ) → slice_index pages j ≡ word_at bytes k j)
    → (j : ℕ) → slice_index (slice_set pages k word) j ≡ word_at bytes (k + 1) j
words_more bytes pages k word inside is earlier j =
    ⊎_elim
    (λ here. rw here (get_or-set_same pages k word 0 inside ∙ is ∙ sym (ap (λ b. cond b (field_value bytes (64 * k) 64) 0) (lt-ltb k (k + 1) (omega arith)))))
    (λ apart.
    get_or-set_other pages k j word 0 apart
    ∙ earlier j
    ∙ ap (λ b. cond b (field_value bytes (64 * j) 64) 0) (below_same j k apart))
    (cases_eq j k)

pub words_all : (bytes pages : List ℕ) (n : ℕ) → length pages ≡ 88 → ((j : ℕ) → slice_index pages j ≡ word_at bytes n j) → pages ≡ words_from bytes n 0 88
words_all bytes pages n long read =
    same_number_lists pages (words_from bytes n 0 88) (long ∙ sym (length-words_from bytes n 0 88))
    (λ j low. read j ∙ ap (word_at bytes n) (omega arith) ∙ sym (words_from-read bytes n 0 88 j (omega (arith, long))))
