-- How the fields of a line and of a name are seen, and what they keep.
use Rattle.std.specs.Prelude.{ℕ, ◌-◌, ◌≤◌, List, drop}
use Rattle.transcript_text.specs.declared.line.LineEnd.TheInside.{Inside as LineFields}
use Rattle.transcript_text.specs.declared.line.NameEnd.TheInside.{Inside as NameFields}
use Rattle.transcript_text.specs.declared.line.TheConstants.{LINE, NAME}

abbrev pub line_view : LineFields → List ℕ
line_view l = drop l.start l.bytes

abbrev pub IsLine : LineFields → Type 0
IsLine l = l.start ≤ LINE

abbrev pub name_view : NameFields → List ℕ
name_view n = drop (NAME - n.count) n.bytes

abbrev pub IsName : NameFields → Type 0
IsName n = n.count ≤ NAME
