-- The text of a layout.
use Rattle.std.specs.Prelude.{ℕ, List, ◌++◌, codes, decimal}
use Rattle.std.specs.List.{flat_map}
use Rattle.prm_fields.specs.Layout.{rows}
use Rattle.prm_fields.specs.Names.{field_text}
use Rattle.prm_fields.specs.declared.layout.FieldRow.{FieldRow}
use Rattle.prm_fields.specs.declared.layout.LayoutName.{LayoutName}

-- a row as a line: its field, its first bit and its width
abbrev pub row_line : FieldRow → List ℕ
row_line row = field_text row.name ++ codes " " ++ decimal row.bit ++ codes " " ++ decimal row.width ++ codes "\n"

-- a line for each row of a layout, in order
abbrev pub layout_lines : LayoutName → List ℕ
layout_lines layout = flat_map row_line (rows layout)
