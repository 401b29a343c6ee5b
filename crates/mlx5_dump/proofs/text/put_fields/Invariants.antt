use Rattle.std.proofs.Common.{◌≡◌, ◌++◌, filter, drop}
use Rattle.std.specs.List.{flat_map}
use Rattle.prm_fields.specs.Layout.{rows}
use Rattle.mlx5_dump.specs.Answer.{fields_text, is_named, row_words}
use Rattle.mlx5_dump.proofs.text.put_fields.Given as goal

-- the rows so far and those that are left are all
abbrev pub invariant-loop-row : goal.invariant-loop-row
invariant-loop-row l = l.text.items ++ flat_map (row_words l.bytes) (filter is_named (drop l.row-index (rows l.fn.layout))) ≡ l.fn.text.items ++ fields_text l.fn.layout l.bytes
