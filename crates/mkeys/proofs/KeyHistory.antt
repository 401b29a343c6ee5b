-- Over a history of keys: a key is that of a region exactly where the region was registered under it and the key not dropped since.
use Rattle.std.proofs.Common.{◌≡◌, ◌≢◌, ◌⊎◌, ℕ, zero, suc, inl, inr, refl, ap, sym, subst, ◌∙◌, arith, true, false, List, [], ◌∷◌, ◌++◌, None, Some, fold}
use Rattle.std.specs.List.{Contains}
use Rattle.std.specs.Ordering.{nat_cmp, eq_by_cmp}
use Rattle.std.specs.Cmp.{nat_cmp_total}
use Rattle.std.specs.FinMap.{get, insert, remove, empty, get-empty, get-insert, get-remove}
use Rattle.std.proofs.lemmas.Bool.{cases_Bool, cond-true, cond-false}
use Rattle.bus_core.specs.Follow.{Follows}
use Rattle.mkeys.specs.declared.region.KeyRegion.{KeyRegion}
use Rattle.mkeys.specs.declared.region.Right.{Right}
use Rattle.mkeys.specs.Keys.{Keys, index_of, variant_of, Names, Lives, Permits, IsLowestFree}
use Rattle.mkeys.specs.Region.{Allows}
use Rattle.mkeys.specs.Events.{KeyEvent, Registered, Dropped, MayHappen, after_event, IsLegal, keys_after, IsRegistered}
use Rattle.mkeys.proofs.KeysOfPlaces.{same_key, is_same_key}

contains_cons : (x : KeyEvent) (xs : List KeyEvent) (y : KeyEvent) → Contains (x ∷ xs) y → (x ≡ y) ⊎ Contains xs y
contains_cons x xs y (zero, h, e) = inl e
contains_cons x xs y (suc k, h, e) = inr (k, omega arith, e)

contains_later : (x : KeyEvent) (xs : List KeyEvent) (y : KeyEvent) → Contains xs y → Contains (x ∷ xs) y
contains_later x xs y (k, h, e) = (suc k, omega arith, e)

-- what lives at an index after a registration or a drop at the same index, or at another
registered_here : (keys : Keys) (a b : ℕ) (region : KeyRegion) → eq_by_cmp nat_cmp a b ≡ true → get (insert keys b region) a ≡ Some region
registered_here keys a b region same = get-insert nat_cmp_total keys b region a ∙ cond-true (eq_by_cmp nat_cmp a b) (Some region) (get keys a) same

registered_elsewhere : (keys : Keys) (a b : ℕ) (region : KeyRegion) → eq_by_cmp nat_cmp a b ≡ false → get (insert keys b region) a ≡ get keys a
registered_elsewhere keys a b region other = get-insert nat_cmp_total keys b region a ∙ cond-false (eq_by_cmp nat_cmp a b) (Some region) (get keys a) other

dropped_here : (keys : Keys) (a b : ℕ) → eq_by_cmp nat_cmp a b ≡ true → get (remove keys b) a ≡ None
dropped_here keys a b same = get-remove nat_cmp_total keys b a ∙ cond-true (eq_by_cmp nat_cmp a b) None (get keys a) same

dropped_elsewhere : (keys : Keys) (a b : ℕ) → eq_by_cmp nat_cmp a b ≡ false → get (remove keys b) a ≡ get keys a
dropped_elsewhere keys a b other = get-remove nat_cmp_total keys b a ∙ cond-false (eq_by_cmp nat_cmp a b) None (get keys a) other

-- a key is its index and its variant
whole_key : (a b : ℕ) → index_of a ≡ index_of b → variant_of a ≡ variant_of b → a ≡ b
whole_key a b i v = omega arith

-- one event back: a key that names a region got it now, or had it before and was not dropped now
one_back : (keys : Keys) (event : KeyEvent) (key : ℕ) (region : KeyRegion) → MayHappen keys event → Names (after_event keys event) key region → (event ≡ Registered key region) ⊎ (Names keys key region × (event ≢ Dropped key))
one_back keys (Registered other its) key region may names =
    elim (cases_Bool (eq_by_cmp nat_cmp (index_of key) (index_of other))) [
      | inl same ↦
          let here = registered_here keys (index_of key) (index_of other) its same in
          let its_is : its ≡ region = let found = names.index in cc in
          let key_is : other ≡ key = whole_key other key (sym (is_same_key _ _ same)) (may.variant ∙ (ap (λ r. r.variant) its_is ∙ names.variant)) in
          inl (λ i. Registered (key_is i) (its_is i))
      | inr differs ↦ inr (record { index = sym (registered_elsewhere keys (index_of key) (index_of other) its differs) ∙ names.index; variant = names.variant }, λ e. cc)
    ]
one_back keys (Dropped other) key region may names =
    elim (cases_Bool (eq_by_cmp nat_cmp (index_of key) (index_of other))) [
      | inl same ↦ let gone = dropped_here keys (index_of key) (index_of other) same in let found = names.index in absurd cc
      | inr differs ↦ inr (
        record { index = sym (dropped_elsewhere keys (index_of key) (index_of other) differs) ∙ names.index; variant = names.variant },
        λ e. let key_is : other ≡ key = cc in let same = same_key (index_of key) (index_of other) (ap index_of (sym key_is)) in cc,
      )
    ]

-- one event on: a key that names a region and is not dropped names it still
one_on : (keys : Keys) (event : KeyEvent) (key : ℕ) (region : KeyRegion) → MayHappen keys event → event ≢ Dropped key → Names keys key region → Names (after_event keys event) key region
one_on keys (Registered other its) key region may kept names =
    elim (cases_Bool (eq_by_cmp nat_cmp (index_of key) (index_of other))) [
      | inl same ↦ let free : get keys (index_of key) ≡ None = ap (get keys) (is_same_key _ _ same) ∙ may.free in let found = names.index in absurd cc
      | inr differs ↦ record { index = registered_elsewhere keys (index_of key) (index_of other) its differs ∙ names.index; variant = names.variant }
    ]
one_on keys (Dropped other) key region (its, lives) kept names =
    elim (cases_Bool (eq_by_cmp nat_cmp (index_of key) (index_of other))) [
      | inl same ↦
          let index : index_of key ≡ index_of other = is_same_key _ _ same in
          let its_is : its ≡ region = let a = names.index in let b = lives.index in let at = ap (get keys) index in cc in
          let key_is : other ≡ key = whole_key other key (sym index) (sym lives.variant ∙ (ap (λ r. r.variant) its_is ∙ names.variant)) in
          absurd (kept (ap (λ k. Dropped k) key_is))
      | inr differs ↦ record { index = dropped_elsewhere keys (index_of key) (index_of other) differs ∙ names.index; variant = names.variant }
    ]

back : (keys : Keys) (events : List KeyEvent) (key : ℕ) (region : KeyRegion) → Follows MayHappen after_event keys events → Names (fold after_event keys events) key region → IsRegistered events key region ⊎ (Names keys key region × (¬ (Contains events (Dropped key))))
back keys [] key region legal names = inr (names, λ c. omega (arith, c.1))
back keys (event ∷ events) key region (may, legal) names = elim (back (after_event keys event) events key region legal names) [
  | inl since ↦ inl (record { before = event ∷ since.before; since = since.since; in_order = ap (λ es. event ∷ es) since.in_order; not_dropped = since.not_dropped })
  | inr had ↦ elim (one_back keys event key region may had.0) [
    | inl now ↦ inl (record { before = []; since = events; in_order = ap (λ e. e ∷ events) now; not_dropped = had.1 })
    | inr before ↦ inr (before.0, λ c. elim (contains_cons event events (Dropped key) c) [ inl here ↦ before.1 here | inr later ↦ had.1 later ])
  ]
]

on : (keys : Keys) (events : List KeyEvent) (key : ℕ) (region : KeyRegion) → Follows MayHappen after_event keys events → ¬ (Contains events (Dropped key)) → Names keys key region → Names (fold after_event keys events) key region
on keys [] key region legal kept names = names
on keys (event ∷ events) key region (may, legal) kept names =
    on (after_event keys event) events key region legal (λ c. kept (contains_later event events (Dropped key) c))
    (one_on keys event key region may (λ e. kept (0, omega arith, e)) names)

registered : (keys : Keys) (before : List KeyEvent) (key : ℕ) (region : KeyRegion) (since : List KeyEvent) → Follows MayHappen after_event keys (before ++ Registered key region ∷ since) → ¬ (Contains since (Dropped key)) → Names (fold after_event keys (before ++ Registered key region ∷ since)) key region
registered keys [] key region since (may, legal) kept =
    on (after_event keys (Registered key region)) since key region legal kept
    (record { index = registered_here keys (index_of key) (index_of key) region (same_key (index_of key) (index_of key) refl); variant = sym may.variant })
registered keys (event ∷ before) key region since (may, legal) kept = registered (after_event keys event) before key region since legal kept

-- no key names a region in the beginning
none_named : (key : ℕ) (region : KeyRegion) → ¬ (Names empty key region)
none_named key region names = let none = get-empty {X = KeyRegion} nat_cmp (index_of key) in let found = names.index in cc

pub named_is_registered : (events : List KeyEvent) (key : ℕ) (region : KeyRegion) → IsLegal events → Names (keys_after events) key region → IsRegistered events key region
named_is_registered events key region legal names = elim (back empty events key region legal names) [
  | inl is ↦ is
  | inr had ↦ absurd (none_named key region had.0)
]

pub registered_is_named : (events : List KeyEvent) (key : ℕ) (region : KeyRegion) → IsLegal events → IsRegistered events key region → Names (keys_after events) key region
registered_is_named events key region legal is =
    rw is.in_order (registered empty is.before key region is.since (subst IsLegal is.in_order legal) is.not_dropped)

pub permits_registered : (events : List KeyEvent) → IsLegal events → (key pd addr len : ℕ) (right : Right) → (Permits (keys_after events) key pd addr len right → (region : KeyRegion) × IsRegistered events key region × Allows region pd addr len right) × ((region : KeyRegion) × IsRegistered events key region × Allows region pd addr len right → Permits (keys_after events) key pd addr len right)
permits_registered events legal key pd addr len right = (
  λ p. (p.0, named_is_registered events key p.0 legal p.1, p.2),
  λ p. (p.0, registered_is_named events key p.0 legal p.1, p.2),
)

-- what was registered may be
registered_variant : (keys : Keys) (before : List KeyEvent) (key : ℕ) (region : KeyRegion) (since : List KeyEvent) → Follows MayHappen after_event keys (before ++ Registered key region ∷ since) → region.variant ≢ 0
registered_variant keys [] key region since (may, legal) = may.some_variant
registered_variant keys (event ∷ before) key region since (may, legal) = registered_variant (after_event keys event) before key region since legal

pub lives_some_variant : (events : List KeyEvent) → IsLegal events → (key : ℕ) → Lives (keys_after events) key → variant_of key ≢ 0
lives_some_variant events legal key (region, names) =
    let is = named_is_registered events key region legal names in
    let some = registered_variant empty is.before key region is.since (subst IsLegal is.in_order legal) in
    λ zero_variant. some (names.variant ∙ zero_variant)

-- a registration that answers a key is an event
pub may_register : (keys : Keys) (key : ℕ) (region : KeyRegion) → IsLowestFree keys (index_of key) → variant_of key ≡ region.variant → region.variant ≢ 0 → MayHappen keys (Registered key region)
may_register keys key region low variant some = record { inside = low.inside; free = low.free; variant = variant; some_variant = some }
