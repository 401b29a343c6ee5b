-- The limits of segments, one segment after another.
use Rattle.std.proofs.Common.{◌≡◌, ℕ, ◌+◌, ◌≤◌, ◌==◌, length-drop, List, [], ◌∷◌, length, refl, sym, ap, ap₂, ◌∙◌, arith}
use Rattle.std.proofs.lemmas.List.Splits.{length-slice_split}
use Rattle.std.proofs.lemmas.List.Sums.{count_by-le-length}
use Rattle.scenario_text.specs.Bounds.{passed_after, one_segment, segment_bounds, together}
use Rattle.scenario_text.specs.Segments.{segment_fields, length_in}
use Rattle.scenario_text.specs.Sofar.{Said}
use Rattle.scenario_text.specs.Text.{Field, Line, split}
use Rattle.scenario_text.proofs.Events.{with_passed}

-- a line has at most one field more than bytes
pub few_fields : (bytes : List ℕ) → length (segment_fields (split 32 bytes)) ≤ length bytes + 1
few_fields bytes = omega (arith, length-drop 2 (split 32 bytes), length-slice_split (λ b. b == 32) bytes, count_by-le-length (λ b. b == 32) bytes)

-- the limits of the segments before this place were noted, and these fields are left
pub record Noting (before now : Said) (most place total : ℕ) (left whole : Line) : Type 0 where
  pub same : now ≡ with_passed before now.passed
  pub rest : passed_after now.passed (segment_bounds most place total left) ≡ passed_after before.passed (segment_bounds most 1 0 whole)
  pub few : place + length left ≡ 1 + length whole

pub noting_first : (before : Said) (most : ℕ) (whole : Line) → Noting before before most 1 0 whole whole
noting_first before most whole = record { same = refl; rest = refl; few = refl }

-- one more was noted
pub noting_next : (before now after : Said) (most place total bytes more : ℕ) (f : Field) (left rest whole : Line) → Noting before now most place total left whole → left ≡ f ∷ rest → bytes ≡ length_in f
    → more ≡ together bytes total → after ≡ with_passed now (passed_after now.passed (one_segment most place bytes more)) → Noting before after most (place + 1) more rest whole
noting_next before now after most place total bytes more f left rest whole h here bytes_are more_is next =
    let passed : after.passed ≡ passed_after now.passed (one_segment most place bytes more) = ap (λ (s : Said). s.passed) next in
    let bytes_more : more ≡ together (length_in f) total = more_is ∙ ap (λ n. together n total) bytes_are in
    let step : passed_after now.passed (segment_bounds most place total left) ≡ passed_after (passed_after now.passed (one_segment most place (length_in f) (together (length_in f) total))) (segment_bounds most (place + 1) (together (length_in f) total) rest) =
    ap (λ fs. passed_after now.passed (segment_bounds most place total fs)) here
    in
    let noted : passed_after now.passed (one_segment most place bytes more) ≡ passed_after now.passed (one_segment most place (length_in f) (together (length_in f) total)) =
    ap₂ (λ n m. passed_after now.passed (one_segment most place n m)) bytes_are bytes_more
    in
    record {
      same = next ∙ ap (λ (s : Said). with_passed s (passed_after now.passed (one_segment most place bytes more))) h.same ∙ ap (with_passed before) (sym passed);
      rest = ap₂ (λ p m. passed_after p (segment_bounds most (place + 1) m rest)) (passed ∙ noted) bytes_more ∙ sym step ∙ h.rest;
      few = omega (arith, h.few, ap (λ (fs : Line). length fs) here);
    }

-- all were noted
pub noting_end : (before now : Said) (most place total : ℕ) (left whole : Line) → Noting before now most place total left whole → left ≡ []
    → now ≡ with_passed before (passed_after before.passed (segment_bounds most 1 0 whole))
noting_end before now most place total left whole h none =
    h.same ∙ ap (with_passed before) (sym (ap (λ fs. passed_after now.passed (segment_bounds most place total fs)) none) ∙ h.rest)
