use Rattle.std.proofs.Common.{◌++◌, slice_index, replicate, refl, ap, ◌∙◌, ◌*◌}
use Rattle.work_entries.specs.Unit.{unit, word_bytes}
use Rattle.work_entries.proofs.Words.{two_halves}
use Rattle.work_entries.proofs.units.unit_at.Goals as goal

pub returns : goal.returns
unfolding unit
returns c =
    let first = c.copy_from_slice.ensures.after ∙ c.bytes_of.ensures in
    let second = c.copy_from_slice-2.ensures.after ∙ c.bytes_of-2.ensures in
    two_halves c.copy_from_slice.new.self (replicate 8 0) c.copy_from_slice-2.new.self c.copy_from_slice.ensures.len refl
    ∙ ap (λ b. b ++ c.copy_from_slice-2.new.self) first
    ∙ ap (λ b. word_bytes (slice_index c.args.words.now (2 * c.args.k)) ++ b) second
