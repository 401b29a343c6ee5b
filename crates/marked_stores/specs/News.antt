-- The words in which actors take news of one another.
use Rattle.std.specs.Prelude.{ℕ, ◌≡◌, ◌+◌, ◌*◌, ◌^◌, ◌<◌, slice_index}
use Rattle.verbs_types.specs.declared.declaration.Lines.{Lines}
use Rattle.object_places.specs.Objects.{Object, Completions, Sends, Receives, Lives}
use Rattle.object_places.specs.Places.{completions_of, send_of, receive_of}

-- the kinds of news, each of an object by number
pub data News : Type 0 where
  -- the doorbell record of a send queue tells the adapter how many blocks were posted
  SendRecord : (qp : ℕ) → News
  -- its tail tells whoever posts how many requests are over
  SendTail : (qp : ℕ) → News
  -- the doorbell record of a receive queue tells the adapter how many receives were posted
  ReceiveRecord : (qp : ℕ) → News
  -- and its tail whoever posts how many are over
  ReceiveTail : (qp : ℕ) → News
  -- the owner word of an entry, its last, tells whoever polls that a completion stands there
  OwnerWord : (cq index : ℕ) → News
  -- the same in the second area, where a queue goes on that is resized
  SecondOwnerWord : (cq index : ℕ) → News
  -- the consumer index of a completion queue tells the adapter how many completions were taken
  ConsumerIndex : (cq : ℕ) → News
  -- the arm word, behind it in the record, tells the adapter which arm was the last
  ArmWord : (cq : ℕ) → News
  -- the arm register tells it that there is a new one
  ArmRegister : (cq : ℕ) → News
  -- the sequence number tells whoever arms how many events were taken
  SequenceNumber : (cq : ℕ) → News

-- the queue whose news it is
abbrev pub object_of : News → Object
object_of (SendRecord qp) = Sends qp
object_of (SendTail qp) = Sends qp
object_of (ReceiveRecord qp) = Receives qp
object_of (ReceiveTail qp) = Receives qp
object_of (OwnerWord cq index) = Completions cq
object_of (SecondOwnerWord cq index) = Completions cq
object_of (ConsumerIndex cq) = Completions cq
object_of (ArmWord cq) = Completions cq
object_of (ArmRegister cq) = Completions cq
object_of (SequenceNumber cq) = Completions cq

-- an area has as many entries as its queue may ever have
abbrev pub IsEntry : Lines → News → Type 0
IsEntry d (OwnerWord cq index) = index < 2 ^ (completions_of d cq).ceiling
IsEntry d (SecondOwnerWord cq index) = index < 2 ^ (completions_of d cq).ceiling
IsEntry d _ = Unit {0}

-- where it stands
abbrev pub word_of : Lines → News → ℕ
word_of d (SendRecord qp) = (send_of d qp).dbr
word_of d (SendTail qp) = (send_of d qp).tail
word_of d (ReceiveRecord qp) = (receive_of d qp).dbr
word_of d (ReceiveTail qp) = (receive_of d qp).tail
word_of d (OwnerWord cq index) = slice_index (completions_of d cq).areas 0 + 8 * index + 7
word_of d (SecondOwnerWord cq index) = slice_index (completions_of d cq).areas 1 + 8 * index + 7
word_of d (ConsumerIndex cq) = (completions_of d cq).dbr
word_of d (ArmWord cq) = (completions_of d cq).dbr + 1
word_of d (ArmRegister cq) = (completions_of d cq).arm_reg
word_of d (SequenceNumber cq) = (completions_of d cq).sn

-- news of a declared object
pub record IsThere (d : Lines) (n : News) : Type 0 where
  pub lives : Lives d (object_of n)
  pub entry : IsEntry d n

-- a word of news
pub record IsNews (d : Lines) (address : ℕ) : Type 0 where
  pub news : News
  pub there : IsThere d news
  pub is : address ≡ word_of d news
