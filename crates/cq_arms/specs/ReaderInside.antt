-- How the fields of an event reader are seen.
use Rattle.std.specs.Prelude.{◌≡◌, ◌<◌, ◌^◌, true}
use Rattle.cq_arms.specs.declared.reader.EventReader.TheInside.{Inside}
use Rattle.cq_arms.specs.ReaderView.{ReaderView}

abbrev pub reader_view : Inside → ReaderView
reader_view a = record { place = a.place; side = record { taken = a.taken }; raising = a.raising }

-- while it counts an event there is a next number
pub record IsReader (a : Inside) : Type 0 where
  pub low : a.raising ≡ true → a.taken < 2 ^ 62
