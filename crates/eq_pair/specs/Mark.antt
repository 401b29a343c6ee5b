-- What an operation on an event queue's words is about.
use Rattle.verbs_types.specs.declared.completion.EventRecord.{EventRecord}
use Rattle.bus_core.specs.TwoSides.{Party, Device, Host, Bystander}

pub data EqMark : Type 0 where
  -- the device writes this event
  Write : (event : EventRecord) → EqMark
  -- the host looks at the last word of its next entry
  Look : EqMark
  -- it reads one word more of the entry that it looked at
  Read : EqMark
  -- it reads that entry's last unread word, and the entry is this event
  Take : (event : EventRecord) → EqMark
  -- it stores the register, past the event that it took
  Register : EqMark
  -- neither side's
  Foreign : EqMark

abbrev pub role_of : EqMark → Party
role_of (Write event) = Device
role_of Look = Host
role_of Read = Host
role_of (Take event) = Host
role_of Register = Host
role_of Foreign = Bystander
