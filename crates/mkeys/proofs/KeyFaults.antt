-- A key has no fault exactly where it is that of a region, and for a use exactly where it permits it.
use Rattle.std.proofs.Common.{◌≡◌, ℕ, ◌+◌, refl, ap, ◌∙◌, Bool, true, false, eqb, leb, ◌++◌, Option, None, Some}
use Rattle.std.specs.FinMap.{get}
use Rattle.std.proofs.lemmas.Bool.{eq-eqb, eqb-true, le-leb, leb-true, and_parts, and_from}
use Rattle.mkeys.specs.declared.region.KeyRegion.{KeyRegion}
use Rattle.mkeys.specs.declared.region.Right.{Right}
use Rattle.mkeys.specs.declared.fault.KeyFault.{KeyFault}
use Rattle.mkeys.specs.declared.fault.KeyFault.TheVariants.{Index, Variant, Pd, Range}
use Rattle.mkeys.specs.declared.fault.KeyFault.TheVariants as faults
use Rattle.mkeys.specs.Region.{has_right, is_within, Allows}
use Rattle.mkeys.specs.Keys.{Keys, index_of, variant_of, Lives, Permits}
use Rattle.mkeys.specs.Faults.{failing, first_failing, needs_of_key, needs_of_use, key_fault, use_fault}

-- a need that is met leaves it to the others, and so does each where none fails
met : (test : Bool) (fault : KeyFault) (others : Option KeyFault) → failing test fault others ≡ None → (test ≡ true) × (others ≡ None)
met true fault others e = (refl, e)
met false fault others e = absurd cc

meets : (test : Bool) (fault : KeyFault) (others : Option KeyFault) → test ≡ true → others ≡ None → failing test fault others ≡ None
meets true fault others t e = e
meets false fault others t e = absurd cc

-- over what lives at the index
key_met : (slot : Option KeyRegion) (variant : ℕ) → first_failing (needs_of_key slot variant) ≡ None → (region : KeyRegion) × (slot ≡ Some region) × (region.variant ≡ variant)
key_met None variant e = absurd cc
key_met (Some region) variant e = (region, refl, eqb-true region.variant variant (met (eqb region.variant variant) Variant None e).0)

use_met : (slot : Option KeyRegion) (variant pd addr len : ℕ) (right : Right) → first_failing (needs_of_key slot variant ++ needs_of_use slot pd addr len right) ≡ None → (region : KeyRegion) × (slot ≡ Some region) × (region.variant ≡ variant) × Allows region pd addr len right
use_met None variant pd addr len right e = absurd cc
use_met (Some region) variant pd addr len right e =
    let by_variant = met (eqb region.variant variant) Variant _ e in
    let by_pd = met (eqb region.pd pd) Pd _ by_variant.1 in
    let by_right = met (has_right region.rights right) faults.Right _ by_pd.1 in
    let by_range = and_parts (leb region.start addr) (leb (addr + len) (region.start + region.len)) (met (is_within region addr len) Range None by_right.1).0 in (
      region,
      refl,
      eqb-true region.variant variant by_variant.0,
      record {
        domain = eqb-true region.pd pd by_pd.0;
        right_held = by_right.0;
        from_start = leb-true region.start addr by_range.0;
        to_end = leb-true (addr + len) (region.start + region.len) by_range.1;
      },
    )

meets_use : (region : KeyRegion) (variant pd addr len : ℕ) (right : Right) → region.variant ≡ variant → Allows region pd addr len right → first_failing (needs_of_key (Some region) variant ++ needs_of_use (Some region) pd addr len right) ≡ None
meets_use region variant pd addr len right same allows =
    meets (eqb region.variant variant) Variant _ (eq-eqb region.variant variant same)
    (meets (eqb region.pd pd) Pd _ (eq-eqb region.pd pd allows.domain)
    (meets (has_right region.rights right) faults.Right _ allows.right_held
    (meets (is_within region addr len) Range None (and_from _ _ (le-leb region.start addr allows.from_start) (le-leb (addr + len) (region.start + region.len) allows.to_end)) refl)))

pub lives_unless_fault : (keys : Keys) (key : ℕ) → key_fault keys key ≡ None → Lives keys key
lives_unless_fault keys key e =
    let found = key_met (get keys (index_of key)) (variant_of key) e in
    (found.0, record { index = found.1; variant = found.2 })

pub no_fault_where_lives : (keys : Keys) (key : ℕ) → Lives keys key → key_fault keys key ≡ None
no_fault_where_lives keys key (region, names) =
    ap (λ slot. first_failing (needs_of_key slot (variant_of key))) names.index
    ∙ meets (eqb region.variant (variant_of key)) Variant None (eq-eqb region.variant (variant_of key) names.variant) refl

pub permits_unless_fault : (keys : Keys) (key pd addr len : ℕ) (right : Right) → use_fault keys key pd addr len right ≡ None → Permits keys key pd addr len right
permits_unless_fault keys key pd addr len right e =
    let found = use_met (get keys (index_of key)) (variant_of key) pd addr len right e in
    (found.0, record { index = found.1; variant = found.2 }, found.3)

pub no_fault_where_permits : (keys : Keys) (key pd addr len : ℕ) (right : Right) → Permits keys key pd addr len right → use_fault keys key pd addr len right ≡ None
no_fault_where_permits keys key pd addr len right (region, names, allows) =
    ap (λ slot. first_failing (needs_of_key slot (variant_of key) ++ needs_of_use slot pd addr len right)) names.index
    ∙ meets_use region (variant_of key) pd addr len right names.variant allows
