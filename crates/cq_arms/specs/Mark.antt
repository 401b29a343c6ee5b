-- What an operation is about.
use Rattle.std.specs.Prelude.{ℕ, Bool, true, false}
use Rattle.verbs_types.specs.declared.completion.ArmKind.{ArmKind}

pub data ArmMark : Type 0 where
  -- the armer loads the sequence number
  LoadNumber : ArmMark
  -- it stores record word 1 of an arm of this kind, or for any completion, at this index
  StoreRecord : (kind : ArmKind) (index : ℕ) → ArmMark
  -- it stores the register
  StoreRegister : ArmMark
  -- the event reader raises the sequence number
  Raise : ArmMark
  -- the adapter loads the register
  See : ArmMark
  -- it publishes a completion in the queue
  Publish : (solicited : Bool) → ArmMark
  -- it uses an index of the queue for the entry that tells of a resize
  Resize : ArmMark
  -- it writes the event that is due
  Write : ArmMark
  -- the queue's host acknowledges what is below this index
  Acknowledge : (ci : ℕ) → ArmMark
  -- none of these
  Foreign : ArmMark

-- whose it is; the armer is the queue's host, which acknowledges by the queue's rule and not by that of arms
pub data ArmParty : Type 0 where
  ByArmer : ArmParty
  ByReader : ArmParty
  ByAdapter : ArmParty
  Beside : ArmParty

abbrev pub party_of : ArmMark → ArmParty
party_of LoadNumber = ByArmer
party_of (StoreRecord kind index) = ByArmer
party_of StoreRegister = ByArmer
party_of Raise = ByReader
party_of See = ByAdapter
party_of (Publish solicited) = ByAdapter
party_of Resize = ByAdapter
party_of Write = ByAdapter
party_of (Acknowledge ci) = Beside
party_of Foreign = Beside

abbrev pub is_party : ArmParty → ArmParty → Bool
is_party ByArmer ByArmer = true
is_party ByReader ByReader = true
is_party ByAdapter ByAdapter = true
is_party Beside Beside = true
is_party _ _ = false
