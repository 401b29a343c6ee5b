use Rattle.std.proofs.Common.{◌∙◌, sym, refl}
use Rattle.work_entries.proofs.InlineSegments.{judged, read}
use Rattle.work_entries.proofs.inline.inline_at.Goals as goal

pub returns-then-not-is_zero-clause-refused : goal.returns-then-not-is_zero-clause-refused
returns-then-not-is_zero-clause-refused c =
    let counted = rw c.unit_at.ensures at c.get-bytes.ensures.value in
    let sized = sym c.has_inline_size.ensures ∙ c.if-not-has_inline_size.false in
    judged c.args.words.now c.segment_at-segment.result c.split_at.result.0.now c.split_at.result.1.now c.args.first c.args.count c.get-bytes.result counted sized c.segment_at-segment.ensures c.split_at.ensures.front c.split_at.ensures.back c.is_zero.result c.is_zero.ensures
    ∙ rw c.if-not-is_zero.true refl

pub returns-clause-found : goal.returns-clause-found
returns-clause-found c =
    let counted = rw c.unit_at.ensures at c.get-bytes.ensures.value in
    let sized = sym c.has_inline_size.ensures ∙ c.if-not-has_inline_size.false in
    rw c.from_slice.ensures (read c.args.words.now c.segment_at-segment.result c.split_at.result.0.now c.split_at.result.1.now c.args.first c.args.count c.get-bytes.result counted sized c.segment_at-segment.ensures c.split_at.ensures.front c.split_at.ensures.back c.requires.begins (sym c.is_zero.ensures ∙ c.if-not-is_zero.false))

pub returns-clause-refused : goal.returns-clause-refused
returns-clause-refused c =
    let counted = rw c.unit_at.ensures at c.get-bytes.ensures.value in
    let sized = sym c.has_inline_size.ensures ∙ c.if-not-has_inline_size.false in
    judged c.args.words.now c.segment_at-segment.result c.split_at.result.0.now c.split_at.result.1.now c.args.first c.args.count c.get-bytes.result counted sized c.segment_at-segment.ensures c.split_at.ensures.front c.split_at.ensures.back c.is_zero.result c.is_zero.ensures
    ∙ rw c.if-not-is_zero.false refl
