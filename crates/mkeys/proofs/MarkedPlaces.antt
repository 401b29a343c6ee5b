-- Places whose marks are true: what stays so, which index is the lowest free one, and when there is none.
use Rattle.std.proofs.Common.{◌≡◌, ℕ, ◌<◌, inl, inr, refl, ap, sym, ◌∙◌, arith, true, false, not, List, Option, None, Some, is_some, length, get_or, set, replicate}
use Rattle.std.specs.FinMap.{get, len}
use Rattle.std.proofs.lemmas.List.{get_or-set_other, get_or-replicate, get_or_past, length-set, length-replicate}
use Rattle.std.proofs.lemmas.Grind.{get_or-set_at}
use Rattle.std.proofs.lemmas.Bool.{cases_lt}
use Rattle.mkeys.specs.declared.region.KeyRegion.{KeyRegion}
use Rattle.mkeys.specs.declared.table.TheConstants.{PLACES}
use Rattle.mkeys.specs.FreePlaces.{is_free, IsLowest, NoneFree, Turns}
use Rattle.mkeys.specs.Keys.{IsLowestFree}
use Rattle.mkeys.specs.TableInside.{IsTable, keys_of}
use Rattle.mkeys.proofs.KeysOfPlaces.{get-keys_of, len_full, len_short}

pub fresh : (free : List ℕ) → ((place : ℕ) → place < PLACES → is_free free place ≡ true) → IsTable (replicate PLACES None) free
fresh free all = record {
  count = length-replicate {A = Option KeyRegion} PLACES None;
  marked = λ index h. all index h ∙ ap (λ slot. not (is_some slot)) (sym (get_or-replicate PLACES index None None h));
}

-- an index with a region is that of a place
pub lives_inside : (places : List (Option KeyRegion)) (index : ℕ) (region : KeyRegion) → length places ≡ PLACES → get (keys_of places) index ≡ Some region → index < PLACES
lives_inside places index region count lives =
    elim (cases_lt index PLACES) [
      | inl inside ↦ inside
      | inr past ↦ let gone = get_or_past places index None (omega arith) in let is = get-keys_of places index in absurd cc
    ]

-- a write to a place with a new mark for it
pub written : (places : List (Option KeyRegion)) (free later : List ℕ) (index : ℕ) (slot : Option KeyRegion) → index < PLACES → IsTable places free → Turns free later index (not (is_some slot)) → IsTable (set places index slot) later
written places free later index slot inside is turns = record {
  count = length-set places index slot ∙ is.count;
  marked = λ other h. elim (cases_lt other index) [
    | inl below ↦ others other h (λ e. absurd (omega arith))
    | inr from ↦ elim (cases_lt index other) [
      | inl above ↦ others other h (λ e. absurd (omega arith))
      | inr upto ↦
          let same : other ≡ index = omega arith in
          ap (is_free later) same ∙ (turns.there ∙ ap (λ x. not (is_some x)) (sym (get_or-set_at places index other slot None same (omega (arith, is.count)))))
    ]
  ];
}
  where
    others : (other : ℕ) → other < PLACES → (other ≡ index → ⊥) → is_free later other ≡ not (is_some (get_or (set places index slot) other None))
    others other h differs = turns.others other differs ∙ (is.marked other h ∙ ap (λ x. not (is_some x)) (sym (get_or-set_other places index other slot None differs)))

-- what a mark says of a place
vacant : (slot : Option KeyRegion) → true ≡ not (is_some slot) → slot ≡ None
vacant None e = refl
vacant (Some region) e = absurd cc

is_taken : (slot : Option KeyRegion) → false ≡ not (is_some slot) → is_some slot ≡ true
is_taken None e = absurd cc
is_taken (Some region) e = refl

pub lowest : (places : List (Option KeyRegion)) (free : List ℕ) (index : ℕ) → IsTable places free → IsLowest free index → IsLowestFree (keys_of places) index
lowest places free index is low = record {
  inside = low.inside;
  free = get-keys_of places index ∙ vacant (get_or places index None) (sym low.free ∙ is.marked index low.inside);
  lower = λ other h.
      rw (get-keys_of places other) (is_taken (get_or places other None) (sym (low.lower other h) ∙ is.marked other (omega (arith, low.inside))));
}

pub full : (places : List (Option KeyRegion)) (free : List ℕ) → IsTable places free → NoneFree free → len (keys_of places) ≡ PLACES
full places free is none =
    len_full places (λ place h. let inside : place < PLACES = omega (arith, is.count) in is_taken (get_or places place None) (sym (none place inside) ∙ is.marked place inside))
    ∙ is.count

pub not_full : (places : List (Option KeyRegion)) (free : List ℕ) (index : ℕ) → IsTable places free → IsLowest free index → len (keys_of places) < PLACES
not_full places free index is low =
    let short = len_short places index (omega (arith, is.count, low.inside)) (ap is_some (vacant (get_or places index None) (sym low.free ∙ is.marked index low.inside))) in
    omega (arith, short, is.count)
