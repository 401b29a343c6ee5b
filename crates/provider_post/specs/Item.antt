-- Which words an item of a call is written as.
use Rattle.std.specs.Prelude.{ℕ, ◌≡◌, ◌%◌, ◌^◌, ◌≤◌, List, length, take, Option, Some}
use Rattle.std.specs.List.{AllByRecursion}
use Rattle.verbs_types.specs.declared.completion.Queue.{Queue}
use Rattle.verbs_types.specs.declared.completion.Queue.TheVariants.{Send, Recv}
use Rattle.verbs_types.specs.declared.request.Sge.{Sge}
use Rattle.verbs_types.specs.declared.request.Request.{Request}
use Rattle.verbs_types.specs.declared.request.Receive.{Receive}
use Rattle.verbs_types.specs.declared.request.Item.{Item}
use Rattle.verbs_types.specs.declared.request.Item.TheVariants.{Request as TheRequest, Receive as TheReceive}
use Rattle.work_entries.specs.Body.{MayCarry}
use Rattle.work_entries.specs.Opcode.{opcode_of}
use Rattle.work_entries.specs.Send.{IsSend, sent_of, sent_body}
use Rattle.work_entries.specs.Receive.{IsReal, IsReceive, AreClearFrom, room_of, used_units}
use Rattle.work_entries.specs.declared.units.SendWords.{SendWords}
use Rattle.counted_ring.specs.declared.place.WqPlace.{WqPlace}
use Rattle.counted_ring.specs.Place.{entry_words}
use Rattle.counted_ring.specs.Queue as queue
use Rattle.counted_ring.specs.Queue.{WqEvent}

-- what an entry can carry
abbrev pub CanCarry : Request → Type 0
CanCarry r = MayCarry (opcode_of r.op) (sent_body r.body)

-- a block has room for the segments, and none of them is the one that ends a list
pub record CanReceive (place : WqPlace) (r : Receive) : Type 0 where
  pub room : length r.sges ≤ room_of place.stride
  pub real : AllByRecursion IsReal r.sges

abbrev pub CanTake : WqPlace → Item → Type 0
CanTake place (TheRequest r) = CanCarry r
CanTake place (TheReceive r) = CanReceive place r

-- words and id are those of this request, at this block index of this queue pair's send queue
pub record IsWritten (place : WqPlace) (number index : ℕ) (r : Request) (words : List ℕ) (id : ℕ) : Type 0 where
  pub entry : SendWords
  pub spells : IsSend (sent_of r (index % 2 ^ 16) number) entry
  pub words_are : words ≡ entry_words place entry
  pub id_is : id ≡ r.id

-- words and id are those of this receive: its segments, and 0 up to the end of the block
pub record IsWrittenReceive (place : WqPlace) (r : Receive) (words : List ℕ) (id : ℕ) : Type 0 where
  pub whole : length words ≡ place.stride
  pub spells : IsReceive r.sges (room_of place.stride) words
  pub clear : AreClearFrom (used_units (length r.sges) (room_of place.stride)) words
  pub id_is : id ≡ r.id

-- a block of 32 words of which the first ones are those of a receive of these segments
pub record IsReceiveEntry (sges : List Sge) (stride : ℕ) (entry : SendWords) : Type 0 where
  pub one : entry.blocks ≡ 1
  pub whole : length (take stride entry.words) ≡ stride
  pub spells : IsReceive sges (room_of stride) (take stride entry.words)
  pub clear : AreClearFrom (used_units (length sges) (room_of stride)) (take stride entry.words)

-- a send queue holds requests, and a receive queue receives
abbrev pub IsWrittenItem : WqPlace → Queue → ℕ → Item → List ℕ → ℕ → Type 0
IsWrittenItem place (Send qp) index (TheRequest r) words id = IsWritten place qp index r words id
IsWrittenItem place (Recv qp) index (TheReceive r) words id = IsWrittenReceive place r words id
IsWrittenItem place _ index _ words id = ⊥

-- words and id are those of the item that comes next
pub record IsNextItem (place : WqPlace) (of_queue : Queue) (index : ℕ) (next : Option Item) (words : List ℕ) (id : ℕ) : Type 0 where
  pub item : Item
  pub next_is : next ≡ Some item
  pub written : IsWrittenItem place of_queue index item words id

-- an item of which an operation says that it was written is the next one
abbrev pub WritesItem : (place : WqPlace) (of_queue : Queue) (index : ℕ) → Option Item → Option WqEvent → Type 0
WritesItem place of_queue index next (Some (queue.Wrote words id)) = IsNextItem place of_queue index next words id
WritesItem place of_queue index next _ = Unit {0}
