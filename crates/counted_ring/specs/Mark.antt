-- What an operation on a counted queue's words is about.
use Rattle.std.specs.Prelude.{ℕ, Bool}
use Rattle.bus_core.specs.TwoSides.{Party, Device, Host, Bystander}

pub data WqMark : Type 0 where
  -- the poster posts its next request
  Post : WqMark
  -- it rings for what it posted
  Ring : WqMark
  -- the retirer looks this counter's id up, after this end: the last one that it found, or the tail where it goes back to it
  Lookup : (counter from : ℕ) → WqMark
  -- it loads the head word of the counter whose id it loaded
  Count : WqMark
  -- it stores this tail
  Retire : (end : ℕ) → WqMark
  -- the device looks at the register
  Look : WqMark
  -- it loads the record, and passes one receive thereafter, or none
  Record : (passes : Bool) → WqMark
  -- it reads one word more of its next entry
  Read : WqMark
  -- nobody's of them
  Foreign : WqMark

abbrev pub role_of : WqMark → Party
role_of Post = Host
role_of Ring = Host
role_of (Lookup counter from) = Host
role_of Count = Host
role_of (Retire end) = Host
role_of Look = Device
role_of (Record passes) = Device
role_of Read = Device
role_of Foreign = Bystander
