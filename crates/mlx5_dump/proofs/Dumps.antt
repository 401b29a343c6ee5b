-- Which lines are dumps.
use Rattle.std.proofs.Common.{◌≡◌, ◌≢◌, ℕ, ◌+◌, ◌*◌, ◌≤◌, ◌==◌, false, IsTrue, List, ◌∷◌, length, drop, slice_index, length-append, refl, sym, ap, ◌∙◌, subst, arith}
use Rattle.std.proofs.lemmas.Bool.Decides.{nat_tests}
use Rattle.mlx5_dump.specs.declared.kind.Kind.{Kind}
use Rattle.mlx5_dump.specs.declared.kind.Kind.TheVariants.{Cqe, Eqe, Send, Entry, Block, Body}
use Rattle.mlx5_dump.specs.declared.kind.TheConstants.{MOST_BYTES}
use Rattle.mlx5_dump.specs.Kind.{has_length, kind_name}
use Rattle.mlx5_dump.specs.Hex.{AreBytes, hex_text}
use Rattle.mlx5_dump.specs.Line.{IsDump, dump_text}
use Rattle.mlx5_dump.proofs.Digits.{length-hex_text}

-- two numbers that a test tells apart
differ : (m n : ℕ) → m ≡ n → (m == n) ≡ false → ⊥
differ m n e apart = grind (arith, nat_tests, e, apart)

-- a line names one kind
pub one_kind : (a b : Kind) (x y : List ℕ) → dump_text a x ≡ dump_text b y → (a ≡ b) × (x ≡ y)
one_kind Cqe Cqe x y e = (refl, ap (drop 4) e)
one_kind Cqe Eqe x y e = absurd (differ 99 101 (ap (λ l. slice_index l 0) e) refl)
one_kind Cqe Send x y e = absurd (differ 99 115 (ap (λ l. slice_index l 0) e) refl)
one_kind Cqe Entry x y e = absurd (differ 99 101 (ap (λ l. slice_index l 0) e) refl)
one_kind Cqe Block x y e = absurd (differ 99 98 (ap (λ l. slice_index l 0) e) refl)
one_kind Cqe Body x y e = absurd (differ 99 98 (ap (λ l. slice_index l 0) e) refl)
one_kind Eqe Cqe x y e = absurd (differ 101 99 (ap (λ l. slice_index l 0) e) refl)
one_kind Eqe Eqe x y e = (refl, ap (drop 4) e)
one_kind Eqe Send x y e = absurd (differ 101 115 (ap (λ l. slice_index l 0) e) refl)
one_kind Eqe Entry x y e = absurd (differ 113 110 (ap (λ l. slice_index l 1) e) refl)
one_kind Eqe Block x y e = absurd (differ 101 98 (ap (λ l. slice_index l 0) e) refl)
one_kind Eqe Body x y e = absurd (differ 101 98 (ap (λ l. slice_index l 0) e) refl)
one_kind Send Cqe x y e = absurd (differ 115 99 (ap (λ l. slice_index l 0) e) refl)
one_kind Send Eqe x y e = absurd (differ 115 101 (ap (λ l. slice_index l 0) e) refl)
one_kind Send Send x y e = (refl, ap (drop 5) e)
one_kind Send Entry x y e = absurd (differ 115 101 (ap (λ l. slice_index l 0) e) refl)
one_kind Send Block x y e = absurd (differ 115 98 (ap (λ l. slice_index l 0) e) refl)
one_kind Send Body x y e = absurd (differ 115 98 (ap (λ l. slice_index l 0) e) refl)
one_kind Entry Cqe x y e = absurd (differ 101 99 (ap (λ l. slice_index l 0) e) refl)
one_kind Entry Eqe x y e = absurd (differ 110 113 (ap (λ l. slice_index l 1) e) refl)
one_kind Entry Send x y e = absurd (differ 101 115 (ap (λ l. slice_index l 0) e) refl)
one_kind Entry Entry x y e = (refl, ap (drop 6) e)
one_kind Entry Block x y e = absurd (differ 101 98 (ap (λ l. slice_index l 0) e) refl)
one_kind Entry Body x y e = absurd (differ 101 98 (ap (λ l. slice_index l 0) e) refl)
one_kind Block Cqe x y e = absurd (differ 98 99 (ap (λ l. slice_index l 0) e) refl)
one_kind Block Eqe x y e = absurd (differ 98 101 (ap (λ l. slice_index l 0) e) refl)
one_kind Block Send x y e = absurd (differ 98 115 (ap (λ l. slice_index l 0) e) refl)
one_kind Block Entry x y e = absurd (differ 98 101 (ap (λ l. slice_index l 0) e) refl)
one_kind Block Block x y e = (refl, ap (drop 6) e)
one_kind Block Body x y e = absurd (differ 108 111 (ap (λ l. slice_index l 1) e) refl)
one_kind Body Cqe x y e = absurd (differ 98 99 (ap (λ l. slice_index l 0) e) refl)
one_kind Body Eqe x y e = absurd (differ 98 101 (ap (λ l. slice_index l 0) e) refl)
one_kind Body Send x y e = absurd (differ 98 115 (ap (λ l. slice_index l 0) e) refl)
one_kind Body Entry x y e = absurd (differ 98 101 (ap (λ l. slice_index l 0) e) refl)
one_kind Body Block x y e = absurd (differ 111 108 (ap (λ l. slice_index l 1) e) refl)
one_kind Body Body x y e = (refl, ap (drop 5) e)

-- no dump has more bytes
few_bytes : (kind : Kind) (count : ℕ) → IsTrue (has_length kind count) → count ≤ MOST_BYTES
few_bytes Cqe count long = grind (arith, nat_tests, long)
few_bytes Eqe count long = grind (arith, nat_tests, long)
few_bytes Send count long = grind (arith, nat_tests, long)
few_bytes Entry count long = grind (arith, nat_tests, long)
few_bytes Block count long = grind (arith, nat_tests, long)
few_bytes Body count long = grind (arith, nat_tests, long)

name_and_digits : (kind : Kind) (count : ℕ) → IsTrue (has_length kind count) → length (kind_name kind) + 2 * count ≤ 2084
name_and_digits Cqe count long = grind (arith, nat_tests, long)
name_and_digits Eqe count long = grind (arith, nat_tests, long)
name_and_digits Send count long = grind (arith, nat_tests, long)
name_and_digits Entry count long = grind (arith, nat_tests, long)
name_and_digits Block count long = grind (arith, nat_tests, long)
name_and_digits Body count long = grind (arith, nat_tests, long)

-- no dump is a longer line
pub short_line : (kind : Kind) (bytes line : List ℕ) → IsDump kind bytes line → length line ≤ 2085
short_line kind bytes line is =
    let parts = ap length is.spelled in
    omega (arith, length-append (kind_name kind) (32 ∷ hex_text bytes), length-hex_text bytes, name_and_digits kind (length bytes) is.long)

-- digits that spell no bytes are no dump's
pub not_spelled : (kind : Kind) (digits line : List ℕ) → line ≡ dump_text kind digits
    → ((bytes : List ℕ) → AreBytes bytes → length bytes ≤ MOST_BYTES → digits ≢ hex_text bytes)
    → (other : Kind) (bytes : List ℕ) → ¬ IsDump other bytes line
not_spelled kind digits line names none other bytes is =
    let same = one_kind kind other digits (hex_text bytes) (sym names ∙ is.spelled) in
    none bytes is.small (few_bytes other (length bytes) is.long) same.1

-- nor are digits that spell another number of bytes
pub wrong_length : (kind : Kind) (digits bytes line : List ℕ) → line ≡ dump_text kind digits → digits ≡ hex_text bytes → has_length kind (length bytes) ≡ false
    → (other : Kind) (others : List ℕ) → ¬ IsDump other others line
wrong_length kind digits bytes line names spelled long other others is =
    let same = one_kind kind other digits (hex_text others) (sym names ∙ is.spelled) in
    let lengths = ap length (sym spelled ∙ same.1) in
    let count : length others ≡ length bytes = omega (arith, lengths, length-hex_text bytes, length-hex_text others) in
    let has : IsTrue (has_length kind (length bytes)) = subst (λ k. IsTrue (has_length k (length bytes))) (sym same.0) (subst (λ n. IsTrue (has_length other n)) count is.long) in
    cc
