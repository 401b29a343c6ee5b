use Rattle.std.proofs.Common.{◌≡◌, ℕ, ◌+◌, ◌-◌, ◌∙◌, List, ap, sym, subst, arith, drop, length, drop_at}
use Rattle.prm_fields.specs.Spelling.{Spells}
use Rattle.prm_fields.specs.declared.layout.LayoutName.TheVariants.{Inline as InlineLayout}
use Rattle.work_entries.specs.Body.{inline_values}
use Rattle.work_entries.specs.Filled.{filled}
use Rattle.work_entries.proofs.InlineSegments.{head_of, segment_copied}
use Rattle.work_entries.proofs.inline.inline_segment.Goals as goal

pub returns-clause-head : goal.returns-clause-head
returns-clause-head c =
    let head = c.copy_from_slice.new.self in
    let bytes = c.args.bytes.now in
    let count : 4 + length bytes - 4 ≡ length bytes = omega arith in
    let copied = segment_copied head bytes c.copy_from_slice-2.new.self 60 (4 + length bytes - 4) c.copy_from_slice.ensures.len c.copy_from_slice-2.ensures.after count in
    let P : List ℕ → Type 0 = λ (b : List ℕ). Spells InlineLayout (inline_values (length bytes)) b in
    subst P (sym copied) (head_of head (filled 60 0 bytes) (length bytes) c.copy_from_slice.ensures.len (subst P (sym c.copy_from_slice.ensures.after) c.inline_head.ensures))

pub returns-clause-rest : goal.returns-clause-rest
returns-clause-rest c =
    let head = c.copy_from_slice.new.self in
    let bytes = c.args.bytes.now in
    let count : 4 + length bytes - 4 ≡ length bytes = omega arith in
    ap (drop 4) (segment_copied head bytes c.copy_from_slice-2.new.self 60 (4 + length bytes - 4) c.copy_from_slice.ensures.len c.copy_from_slice-2.ensures.after count)
    ∙ drop_at head (filled 60 0 bytes) 4 c.copy_from_slice.ensures.len
