-- What an operation on a completion queue's words is about.
use Rattle.std.specs.Prelude.{ℕ}
use Rattle.bus_core.specs.TwoSides.{Party, Device, Host, Bystander}
use Rattle.cqe_format.specs.declared.completion.Cqe.{Cqe}
use Rattle.owner_ring.specs.Mark.{RingMark}
use Rattle.owner_ring.specs.Mark as ring

pub data QueueMark : Type 0 where
  -- the device publishes this completion
  Publish : (completion : Cqe) → QueueMark
  -- it drops one, since the queue has overrun
  Lose : QueueMark
  -- the host looks at the last word of this index's entry
  Look : (index : ℕ) → QueueMark
  -- it reads one word more of the entry that it looked at
  Read : QueueMark
  -- it reads that entry's last unread word, and the entry is this completion
  Take : (completion : Cqe) → QueueMark
  -- it stores this consumer index
  Acknowledge : (index : ℕ) → QueueMark
  -- neither side's
  Foreign : QueueMark

abbrev pub role_of : QueueMark → Party
role_of (Publish completion) = Device
role_of Lose = Device
role_of (Look index) = Host
role_of Read = Host
role_of (Take completion) = Host
role_of (Acknowledge index) = Host
role_of Foreign = Bystander

-- what it is to the ring: a completion that is dropped is none of the ring's entries
abbrev pub ring_mark : QueueMark → RingMark
ring_mark (Publish completion) = ring.Publish
ring_mark Lose = ring.Foreign
ring_mark (Look index) = ring.Look index
ring_mark Read = ring.Read
ring_mark (Take completion) = ring.Read
ring_mark (Acknowledge index) = ring.Acknowledge index
ring_mark Foreign = ring.Foreign
