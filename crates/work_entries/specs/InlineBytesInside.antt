-- What the fields of inline data keep.
use Rattle.std.specs.Prelude.{◌≡◌, ◌≤◌, length, take}
use Rattle.work_entries.specs.declared.inline_bytes.InlineBytes.TheInside.{Inside}
use Rattle.work_entries.specs.Filled.{filled}

pub record AreInlineBytes (a : Inside) : Type 0 where
  pub most : a.count ≤ 60
  pub long : length a.bytes ≡ 60
  pub rest : a.bytes ≡ filled 60 0 (take a.count a.bytes)
