-- A byte string with clear reserved bits is the only one that spells its fields.
use Rattle.std.proofs.Common.{◌≡◌, ℕ, zero, suc, ◌+◌, ◌*◌, ◌<◌, ◌≤◌, Bool, true, ◌&&◌, List, [], ◌∷◌, length, slice_index, sym, refl, ◌∙◌, ⊎_elim, arith}
use Rattle.std.specs.Bool.{◌==◌}
use Rattle.std.specs.List.{AllByRecursion}
use Rattle.std.proofs.lemmas.Bool.{cases_lt, and_parts, eqb-true}
use Rattle.std.proofs.lemmas.Grind.{same_number_lists}
use Rattle.prm_fields.specs.declared.layout.LayoutName.{LayoutName}
use Rattle.prm_fields.specs.declared.layout.LayoutName.TheVariants.{Cqe, CqeErr, EqeCq, EqeError, Ctrl, Raddr, Atomic, DataUnit, Inline, Next, CmdEntry, BlockTail, CqContext, MkeyContext, EqBlock, SrqBlock, QpBlock}
use Rattle.prm_fields.specs.declared.layout.FieldName.{FieldName}
use Rattle.prm_fields.specs.declared.layout.FieldRow.{FieldRow}
use Rattle.prm_fields.specs.Bits.{bit_of, field_value}
use Rattle.prm_fields.specs.Layout.{rows, layout_length}
use Rattle.prm_fields.specs.Spelling.{value_in, OneSpelling}
use Rattle.prm_fields.proofs.Values.{bit_of-lt, field_value-same, field_value_in_byte}

-- two fields with one value have the same bits
pub bits_from_value : (a b : List ℕ) (first width : ℕ) → field_value a first width ≡ field_value b first width → (k : ℕ) → first ≤ k → k < first + width → bit_of a k ≡ bit_of b k
unfolding field_value
bits_from_value a b first zero same k low high = absurd (omega arith)
bits_from_value a b first (suc width) same k low high =
    let p = bit_of-lt a (first + width) in
    let q = bit_of-lt b (first + width) in
    let earlier : field_value a first width ≡ field_value b first width = omega (arith, same, p, q) in
    let last : bit_of a (first + width) ≡ bit_of b (first + width) = omega (arith, same, p, q) in
    ⊎_elim (λ before. bits_from_value a b first width earlier k low before)
    (λ at_end. let place : k ≡ first + width = omega arith in rw place last)
    (cases_lt k (first + width))

-- two byte strings with the same bits are the same
pub same_from_bits : (a b : List ℕ) → length a ≡ length b → ((k : ℕ) → slice_index a k < 256) → ((k : ℕ) → slice_index b k < 256) → ((k : ℕ) → k < 8 * length a → bit_of a k ≡ bit_of b k) → a ≡ b
same_from_bits a b long small_a small_b same =
    let whole : (xs : List ℕ) (i : ℕ) → slice_index xs i < 256 → field_value xs (8 * i + 0) 8 ≡ slice_index xs i =
    λ xs i small. field_value_in_byte xs i 0 8 (omega arith) ∙ omega arith in
    same_number_lists a b long
    (λ i inside.
    sym (whole a i (small_a i))
    ∙ field_value-same a b (8 * i + 0) 8 (λ k low high. same k (omega arith))
    ∙ whole b i (small_b i))

-- whether rows stand one after another from one bit to another
abbrev pub is_tiled : List FieldRow → ℕ → ℕ → Bool
is_tiled [] start end = start == end
is_tiled (r ∷ rs) start end = (r.bit == start) && is_tiled rs (start + r.width) end

-- two byte strings with one value in each of some rows have the same bits there
rows_bits : (values : FieldName → ℕ) (a b : List ℕ) (rs : List FieldRow) (start end : ℕ) → is_tiled rs start end ≡ true
    → AllByRecursion (λ r. field_value a r.bit r.width ≡ value_in values r) rs
    → AllByRecursion (λ r. field_value b r.bit r.width ≡ value_in values r) rs
    → (k : ℕ) → start ≤ k → k < end → bit_of a k ≡ bit_of b k
rows_bits values a b [] start end tiled held_a held_b k low high =
    let meet : start ≡ end = eqb-true start end tiled in
    absurd (omega arith)
rows_bits values a b (r ∷ rs) start end tiled held_a held_b k low high =
    let parts = and_parts (r.bit == start) (is_tiled rs (start + r.width) end) tiled in
    let begin : r.bit ≡ start = eqb-true r.bit start parts.0 in
    ⊎_elim
    (λ here. bits_from_value a b r.bit r.width (held_a.0 ∙ sym held_b.0) k (omega arith) (omega arith))
    (λ later. rows_bits values a b rs (start + r.width) end parts.1 held_a.1 held_b.1 k later high)
    (cases_lt k (start + r.width))

all_tiled : (layout : LayoutName) → is_tiled (rows layout) 0 (8 * layout_length layout) ≡ true
all_tiled Cqe = refl
all_tiled CqeErr = refl
all_tiled EqeCq = refl
all_tiled EqeError = refl
all_tiled Ctrl = refl
all_tiled Raddr = refl
all_tiled Atomic = refl
all_tiled DataUnit = refl
all_tiled Inline = refl
all_tiled Next = refl
all_tiled CmdEntry = refl
all_tiled BlockTail = refl
all_tiled CqContext = refl
all_tiled MkeyContext = refl
all_tiled EqBlock = refl
all_tiled SrqBlock = refl
all_tiled QpBlock = refl

pub one_spelling : OneSpelling
one_spelling layout values a b of_a of_b held_a held_b =
    same_from_bits a b (of_a.long ∙ sym of_b.long) of_a.small of_b.small
    (λ k inside. rows_bits values a b (rows layout) 0 (8 * layout_length layout) (all_tiled layout) held_a held_b k (omega arith) (omega (arith, of_a.long)))
