-- Data segments, one after another.
use Rattle.std.proofs.Common.{◌≡◌, ℕ, suc, ◌+◌, ◌<◌, ◌≤◌, false, List, [], ◌∷◌, ◌++◌, length, subst, arith, ◌≢◌}
use Rattle.std.proofs.lemmas.Bool.{eqb-false}
use Rattle.std.specs.List.{AllByRecursion}
use Rattle.prm_fields.specs.Bits.{field_value}
use Rattle.prm_fields.specs.Spelling.{Spells}
use Rattle.prm_fields.specs.declared.layout.LayoutName.TheVariants.{DataUnit}
use Rattle.prm_fields.proofs.Values.{field_value-add, field_value-lt}
use Rattle.verbs_types.specs.declared.request.Sge.{Sge}
use Rattle.work_entries.specs.Unit.{unit}
use Rattle.work_entries.specs.Body.{HasSegments, IsShort, segment_values, begins_inline}

-- segments are known from their units
pub segments_same : (sges : List Sge) (old new : List ℕ) (k : ℕ) → ((j : ℕ) → k ≤ j → j < k + length sges → unit new j ≡ unit old j) → HasSegments sges old k → HasSegments sges new k
segments_same [] old new k same has = tt
segments_same (sge ∷ sges) old new k same has =
    let first : Spells DataUnit (segment_values sge) (unit new k) = rw (same k (omega arith) (omega arith)) has.0 in
    (first, segments_same sges old new (suc k) (λ j low high. same j (omega arith) (omega arith)) has.1)

-- one more segment
pub segments_more : (sges : List Sge) (sge : Sge) (words : List ℕ) (k place : ℕ) → place ≡ k + length sges → HasSegments sges words k → Spells DataUnit (segment_values sge) (unit words place) → HasSegments (sges ++ sge ∷ []) words k
segments_more [] sge words k place is has next =
    let here : place ≡ k = omega arith in
    let first : Spells DataUnit (segment_values sge) (unit words k) = subst (λ n. Spells DataUnit (segment_values sge) (unit words n)) here next in
    (first, tt)
segments_more (other ∷ sges) sge words k place is has next = (has.0, segments_more sges sge words (suc k) place (omega arith) has.1 next)

-- one more that passes
pub all_more : (P : Sge → Type 0) (sges : List Sge) (sge : Sge) → AllByRecursion P sges → P sge → AllByRecursion P (sges ++ sge ∷ [])
all_more P [] sge all next = (next, tt)
all_more P (other ∷ sges) sge all next = (all.0, all_more P sges sge all.1 next)

-- a unit that does not begin an inline segment spells a short one
pub short_unit : (unit : List ℕ) (sge : Sge) → begins_inline unit ≡ false → Spells DataUnit (segment_values sge) unit → IsShort sge
short_unit unit sge plain has =
    let top : field_value unit 0 1 ≢ 1 = eqb-false (field_value unit 0 1) 1 plain in
    omega (arith, top, field_value-lt unit 0 1, field_value-add unit 0 1 31, field_value-lt unit 1 31, has.0)
