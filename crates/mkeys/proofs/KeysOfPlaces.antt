-- Places with regions as a finite map of keys: what it has, how many, and what a write to a place makes of it.
use Rattle.std.proofs.Common.{◌≡◌, ◌≢◌, ℕ, zero, suc, ◌+◌, ◌<◌, ◌≤◌, inl, inr, refl, ap, sym, ◌∙◌, arith, true, false, cond, List, [], ◌∷◌, Option, None, Some, is_some, length, get_or, set, replicate}
use Rattle.std.specs.Ordering.{nat_cmp, eq_by_cmp}
use Rattle.std.specs.Cmp.{nat_cmp_total}
use Rattle.std.specs.FinMap.{get, insert, remove, empty, len, find, from_entries, contains_key, get-insert, get-remove, get-from_entries, len-empty, len-insert, same_map, nat_cmp-IsAntisymmetric}
use Rattle.std.proofs.lemmas.List.{get_or-set_other}
use Rattle.std.proofs.lemmas.Grind.{get_or-set_at}
use Rattle.std.proofs.lemmas.Bool.{cases_Bool, cond-true, cond-false}
use Rattle.std.proofs.lemmas.Bool.Decides.{nat_tests}
use Rattle.mkeys.specs.declared.region.KeyRegion.{KeyRegion}
use Rattle.mkeys.specs.TableInside.{entries_from, keys_of}

-- keys that tie are equal, and others do not tie
pub same_key : (a b : ℕ) → a ≡ b → eq_by_cmp nat_cmp a b ≡ true
same_key a b e = grind (arith, nat_tests)

other_key : (a b : ℕ) → a ≢ b → eq_by_cmp nat_cmp a b ≡ false
other_key a b n = grind (arith, nat_tests)

pub is_same_key : (a b : ℕ) → eq_by_cmp nat_cmp a b ≡ true → a ≡ b
is_same_key a b e = grind (arith, nat_tests)

-- below its first place a list has no entry
find_below : (start : ℕ) (places : List (Option KeyRegion)) (index : ℕ) → index < start → find nat_cmp index (entries_from start places) ≡ None
find_below start [] index h = refl
find_below start (None ∷ places) index h = find_below (start + 1) places index (omega arith)
find_below start (Some region ∷ places) index h =
    cond-false (eq_by_cmp nat_cmp index start) (Some region) (find nat_cmp index (entries_from (start + 1) places)) (other_key index start (λ e. absurd (omega arith)))
    ∙ find_below (start + 1) places index (omega arith)

find_at : (start : ℕ) (places : List (Option KeyRegion)) (place index : ℕ) → index ≡ start + place → find nat_cmp index (entries_from start places) ≡ get_or places place None
find_at start [] place index e = refl
find_at start (None ∷ places) zero index e = find_below (start + 1) places index (omega arith)
find_at start (None ∷ places) (suc place) index e = find_at (start + 1) places place index (omega arith)
find_at start (Some region ∷ places) zero index e =
    cond-true (eq_by_cmp nat_cmp index start) (Some region) (find nat_cmp index (entries_from (start + 1) places)) (same_key index start (omega arith))
find_at start (Some region ∷ places) (suc place) index e =
    cond-false (eq_by_cmp nat_cmp index start) (Some region) (find nat_cmp index (entries_from (start + 1) places)) (other_key index start (λ s. absurd (omega arith)))
    ∙ find_at (start + 1) places place index (omega arith)

-- the region of an index is what its place has
pub get-keys_of : (places : List (Option KeyRegion)) (index : ℕ) → get (keys_of places) index ≡ get_or places index None
get-keys_of places index = get-from_entries nat_cmp_total (entries_from 0 places) index ∙ find_at 0 places index index (omega arith)

-- a write to a place changes its index alone
get-keys_of_set : (places : List (Option KeyRegion)) (index : ℕ) (slot : Option KeyRegion) → index < length places → (q : ℕ) → get (keys_of (set places index slot)) q ≡ cond (eq_by_cmp nat_cmp q index) slot (get (keys_of places) q)
get-keys_of_set places index slot h q =
    get-keys_of (set places index slot) q
    ∙ elim (cases_Bool (eq_by_cmp nat_cmp q index)) [
      | inl same ↦ get_or-set_at places index q slot None (is_same_key q index same) h ∙ sym (cond-true (eq_by_cmp nat_cmp q index) slot (get (keys_of places) q) same)
      | inr other ↦
          get_or-set_other places index q slot None (λ e. let same = same_key q index e in cc)
          ∙ (sym (get-keys_of places q) ∙ sym (cond-false (eq_by_cmp nat_cmp q index) slot (get (keys_of places) q) other))
    ]

pub keys_of-set_some : (places : List (Option KeyRegion)) (index : ℕ) (region : KeyRegion) → index < length places → keys_of (set places index (Some region)) ≡ insert (keys_of places) index region
keys_of-set_some places index region h =
    same_map nat_cmp_total nat_cmp-IsAntisymmetric _ _ (λ q. get-keys_of_set places index (Some region) h q ∙ sym (get-insert nat_cmp_total (keys_of places) index region q))

pub keys_of-set_none : (places : List (Option KeyRegion)) (index : ℕ) → index < length places → keys_of (set places index None) ≡ remove (keys_of places) index
keys_of-set_none places index h =
    same_map nat_cmp_total nat_cmp-IsAntisymmetric _ _ (λ q. get-keys_of_set places index None h q ∙ sym (get-remove nat_cmp_total (keys_of places) index q))

entries_of_none : (start count : ℕ) → entries_from start (replicate count None) ≡ []
entries_of_none start zero = refl
entries_of_none start (suc count) = entries_of_none (start + 1) count

pub keys_of-replicate : (count : ℕ) → keys_of (replicate count None) ≡ empty
keys_of-replicate count = ap (λ es. from_entries es) (entries_of_none 0 count)

-- how many regions these places have
abbrev count_from : ℕ → List (Option KeyRegion) → ℕ
count_from start places = len (from_entries {R = nat_cmp} (entries_from start places))

one_more : (start : ℕ) (region : KeyRegion) (places : List (Option KeyRegion)) → count_from start (Some region ∷ places) ≡ count_from (start + 1) places + 1
one_more start region places =
    let rest = from_entries {R = nat_cmp} (entries_from (start + 1) places) in
    len-insert nat_cmp_total rest start region
    ∙ cond-false (contains_key rest start) (len rest) (len rest + 1)
    (ap is_some (get-from_entries nat_cmp_total (entries_from (start + 1) places) start ∙ find_below (start + 1) places start (omega arith)))

pub at_most : (start : ℕ) (places : List (Option KeyRegion)) → count_from start places ≤ length places
at_most start [] = omega (arith, len-empty nat_cmp KeyRegion)
at_most start (None ∷ places) = omega (arith, at_most (start + 1) places)
at_most start (Some region ∷ places) = omega (arith, at_most (start + 1) places, one_more start region places)

full_from : (start : ℕ) (places : List (Option KeyRegion)) → ((place : ℕ) → place < length places → is_some (get_or places place None) ≡ true) → count_from start places ≡ length places
full_from start [] full = len-empty nat_cmp KeyRegion
full_from start (None ∷ places) full = absurd (let none : false ≡ true = full 0 (omega arith) in cc)
full_from start (Some region ∷ places) full =
    let rest = full_from (start + 1) places (λ place h. full (suc place) (omega arith)) in
    omega (arith, rest, one_more start region places)

short_from : (start : ℕ) (places : List (Option KeyRegion)) (place : ℕ) → place < length places → is_some (get_or places place None) ≡ false → count_from start places < length places
short_from start [] place h none = omega arith
short_from start (None ∷ places) place h none = omega (arith, at_most (start + 1) places)
short_from start (Some region ∷ places) zero h none = absurd cc
short_from start (Some region ∷ places) (suc place) h none =
    omega (arith, short_from (start + 1) places place (omega arith) none, one_more start region places)

pub len_full : (places : List (Option KeyRegion)) → ((place : ℕ) → place < length places → is_some (get_or places place None) ≡ true) → len (keys_of places) ≡ length places
len_full places full = full_from 0 places full

pub len_short : (places : List (Option KeyRegion)) (place : ℕ) → place < length places → is_some (get_or places place None) ≡ false → len (keys_of places) < length places
len_short places place h none = short_from 0 places place h none
