-- Receive entries.
use Rattle.std.proofs.Common.{◌≡◌, ℕ, suc, ◌+◌, ◌*◌, ◌<◌, ◌≤◌, ◌==◌, ◌&&◌, Bool, false, List, [], ◌∷◌, length, ap, ⊎_elim, inl, arith}
use Rattle.std.specs.List.{AllByRecursion}
use Rattle.std.proofs.lemmas.Bool.{both_ways, cases_eq, cases_order}
use Rattle.prm_fields.specs.Spelling.{Spells}
use Rattle.prm_fields.specs.declared.layout.LayoutName.TheVariants.{DataUnit}
use Rattle.verbs_types.specs.declared.request.Sge.{Sge}
use Rattle.work_entries.specs.Unit.{KeepsOtherWords, unit}
use Rattle.work_entries.specs.Body.{HasSegments, segment_values}
use Rattle.work_entries.specs.Receive.{IsReal, IsReceive, end_of_list}
use Rattle.work_entries.proofs.Words.{unit_kept}
use Rattle.work_entries.proofs.DataSegments.{segments_same}
use Rattle.work_entries.proofs.OneValue.{same_sge, same_sges}

abbrev is_end : Sge → Bool
is_end sge = (sge.key == 0x100) && ((sge.addr == 0) && (sge.len == 0))

pub real_by_test : (sge : Sge) → is_end sge ≡ false → IsReal sge
real_by_test sge other = λ same. both_ways (is_end sge) other (ap is_end same)

-- the end of a list is none of its segments
no_end : (sges : List Sge) (words : List ℕ) (k place : ℕ) → AllByRecursion IsReal sges → HasSegments sges words k → k ≤ place → place < k + length sges → Spells DataUnit (segment_values end_of_list) (unit words place) → ⊥
no_end [] words k place real has low high end = absurd (omega arith)
no_end (sge ∷ sges) words k place real has low high end =
    ⊎_elim
    (λ (here : k ≡ place).
    let here_end = rw (← here) at end in
    real.0 (same_sge sge end_of_list (unit words k) has.0 here_end))
    (λ (apart : k ≡ place → ⊥). no_end sges words (suc k) place real.1 has.1 (omega arith) (omega arith) end)
    (cases_eq k place)

-- no words spell two lists
pub one_list : (a b : List Sge) (room : ℕ) (words : List ℕ) → IsReceive a room words → IsReceive b room words → a ≡ b
one_list a b room words is_a is_b =
    ⊎_elim
    (λ (same : length a ≡ length b). same_sges a b words 0 is_a.segments is_b.segments same)
    (⊎_elim
    (λ (less : length a < length b). absurd (no_end b words 0 (length a) is_b.real is_b.segments (omega arith) (omega arith) (is_a.ended (omega (arith, less, is_b.fits)))))
    (λ (more : length b < length a). absurd (no_end a words 0 (length b) is_a.real is_a.segments (omega arith) (omega arith) (is_b.ended (omega (arith, more, is_a.fits))))))
    (cases_order (length a) (length b))

-- segments, and behind them the end of the list
pub ended : (sges : List Sge) (room : ℕ) (old new bytes : List ℕ) → length sges ≤ room → AllByRecursion IsReal sges → HasSegments sges old 0 → unit new (length sges) ≡ bytes
    → Spells DataUnit (segment_values end_of_list) bytes → KeepsOtherWords old new (2 * length sges) 2 → IsReceive sges room new
ended sges room old new bytes fits real has stored end kept = record {
  fits = fits;
  real = real;
  segments = segments_same sges old new 0 (λ j low high. unit_kept old new (2 * length sges) 2 j kept (inl (omega arith))) has;
  ended = λ left. rw stored end;
}
