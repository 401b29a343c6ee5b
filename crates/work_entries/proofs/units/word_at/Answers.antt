use Rattle.std.proofs.Common.{◌∙◌, slice_index, ◌<◌, ℕ, ◌+◌, ◌-◌}
use Rattle.work_entries.proofs.Words.{small_part, word_bytes_read}
use Rattle.work_entries.proofs.units.word_at.Goals as goal

pub returns : goal.returns
returns c =
    let copied = c.copy_from_slice.new.self in
    let small : (i : ℕ) → slice_index copied i < 256 = λ i. rw c.copy_from_slice.ensures.after (small_part c.args.bytes.now c.args.at (c.args.at + 8 - c.args.at) c.fits-bytes i) in
    word_bytes_read copied c.from_be_bytes.result c.copy_from_slice.ensures.len small c.from_be_bytes.ensures ∙ c.copy_from_slice.ensures.after
