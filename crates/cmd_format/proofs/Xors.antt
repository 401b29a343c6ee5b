-- Laws of the exclusive-or of a byte string.
use Rattle.std.proofs.Common.{◌≡◌, ℕ, zero, suc, ◌<◌, List, [], ◌∷◌, ◌++◌, length, slice_index, slice_set, bit_xor, sym, ap, ◌∙◌, arith}
use Rattle.std.specs.List.{fold}
use Rattle.std.proofs.lemmas.List.Sums.{fold-append}
use Rattle.std.specs.Int.Bits.{xor_assoc, xor_comm, xor_self, xor_zero_l, xor_zero_r}
use Rattle.cmd_format.specs.Signature.{exclusive_or}

pub fold-xor : (a : ℕ) (xs : List ℕ) → fold bit_xor a xs ≡ bit_xor a (exclusive_or xs)
fold-xor a [] = sym (xor_zero_r a)
fold-xor a (x ∷ xs) =
    fold-xor (bit_xor a x) xs ∙ xor_assoc a x (exclusive_or xs) ∙ ap (bit_xor a) (sym (fold-xor x xs))

pub exclusive_or-cons : (x : ℕ) (xs : List ℕ) → exclusive_or (x ∷ xs) ≡ bit_xor x (exclusive_or xs)
exclusive_or-cons x xs = fold-xor x xs

pub exclusive_or-append : (xs ys : List ℕ) → exclusive_or (xs ++ ys) ≡ bit_xor (exclusive_or xs) (exclusive_or ys)
exclusive_or-append xs ys = fold-append bit_xor 0 xs ys ∙ fold-xor (exclusive_or xs) ys

pub xor_cancel : (a b : ℕ) → bit_xor a (bit_xor a b) ≡ b
xor_cancel a b = sym (xor_assoc a a b) ∙ ap (λ n. bit_xor n b) (xor_self a) ∙ xor_zero_l b

-- the order of the first two is free
xor_turned : (a b c : ℕ) → bit_xor a (bit_xor b c) ≡ bit_xor b (bit_xor a c)
xor_turned a b c = sym (xor_assoc a b c) ∙ ap (λ n. bit_xor n c) (xor_comm a b) ∙ xor_assoc b a c

-- a byte that is replaced leaves the sum, and the new one joins it
pub exclusive_or-set : (xs : List ℕ) (i y : ℕ) → i < length xs → exclusive_or (slice_set xs i y) ≡ bit_xor (bit_xor (slice_index xs i) (exclusive_or xs)) y
exclusive_or-set [] i y inside = absurd (omega arith)
exclusive_or-set (x ∷ xs) zero y inside =
    let left = fold-xor y xs ∙ xor_comm y (exclusive_or xs) in
    let gone = ap (bit_xor x) (fold-xor x xs) ∙ xor_cancel x (exclusive_or xs) in
    left ∙ ap (λ n. bit_xor n y) (sym gone)
exclusive_or-set (x ∷ xs) (suc i) y inside =
    let induction = exclusive_or-set xs i y (omega arith) in
    let left = fold-xor x (slice_set xs i y) ∙ ap (bit_xor x) induction in
    let right = ap (bit_xor (slice_index xs i)) (fold-xor x xs) ∙ xor_turned (slice_index xs i) x (exclusive_or xs) in
    left ∙ sym (xor_assoc x (bit_xor (slice_index xs i) (exclusive_or xs)) y) ∙ ap (λ n. bit_xor n y) (sym right)

-- a byte that takes in the sum and what is wanted makes the sum what is wanted
pub exclusive_or_signed : (xs : List ℕ) (i wanted : ℕ) → i < length xs → exclusive_or (slice_set xs i (bit_xor (slice_index xs i) (bit_xor (exclusive_or xs) wanted))) ≡ wanted
exclusive_or_signed xs i wanted inside =
    let byte = slice_index xs i in
    let sum = exclusive_or xs in
    exclusive_or-set xs i (bit_xor byte (bit_xor sum wanted)) inside
    ∙ ap (bit_xor (bit_xor byte sum)) (sym (xor_assoc byte sum wanted))
    ∙ xor_cancel (bit_xor byte sum) wanted
