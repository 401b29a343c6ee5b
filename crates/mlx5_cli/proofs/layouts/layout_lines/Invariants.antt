-- The lines of the rows so far are the text.
use Rattle.std.proofs.Common.{◌≡◌, take}
use Rattle.std.specs.List.{flat_map}
use Rattle.prm_fields.specs.Layout.{rows}
use Rattle.mlx5_cli.specs.Layouts.{row_line}
use Rattle.mlx5_cli.proofs.layouts.layout_lines.Given as goal

abbrev pub invariant-loop-row : goal.invariant-loop-row
invariant-loop-row l = l.text.items ≡ flat_map row_line (take l.row-index (rows l.fn.layout))
