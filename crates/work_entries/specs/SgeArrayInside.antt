-- What the fields of an array of scatter/gather entries keep.
use Rattle.std.specs.Prelude.{◌≡◌, ◌≤◌, length, take}
use Rattle.verbs_types.specs.declared.request.Sge.{Sge}
use Rattle.work_entries.specs.declared.sge_array.SgeArray.TheInside.{Inside}
use Rattle.work_entries.specs.Filled.{filled}

-- what stands where there is no entry
abbrev pub no_sge : Sge
no_sge = record { key = 0; addr = 0; len = 0 }

pub record IsSgeArray (a : Inside) : Type 0 where
  pub most : a.count ≤ 8
  pub long : length a.items ≡ 8
  pub rest : a.items ≡ filled 8 no_sge (take a.count a.items)
