-- A send or receive queue as an object of two sides, of which the host's has two users, and the traces that the law speaks of.
use Rattle.std.specs.Prelude.{ℕ, ◌≡◌, ◌^◌, ◌<◌, ◌&&◌, List, [], filter, Bool, true, false, Option, None}
use Rattle.std.specs.List.{AllByRecursion}
use Rattle.bus_core.specs.declared.operation.BusEntry.{BusEntry}
use Rattle.bus_core.specs.Follow.{Follows}
use Rattle.bus_core.specs.Mark.{Marked, entries}
use Rattle.bus_core.specs.Trace.{Memory, IsConsistent}
use Rattle.bus_core.specs.TwoSides as two
use Rattle.bus_core.specs.TwoSides.{Object, IsHarmless}
use Rattle.counted_ring.specs.declared.place.WqPlace.{WqPlace}
use Rattle.counted_ring.specs.Place.{touches, record_of, IsPlace}
use Rattle.counted_ring.specs.Mark.{WqMark, Post, Ring, Lookup, Count, Retire, Look, Record, Read, role_of}
use Rattle.counted_ring.specs.Queue.{Queue, WqEvent, MayHappen, after_event, empty_queue, AsksInOrder}
use Rattle.counted_ring.specs.Poster.{Poster, Ready}
use Rattle.counted_ring.specs.PosterView.{MayBring, after_bring, brought}
use Rattle.counted_ring.specs.Ends.{Finder, MayFind, after_find, finds}
use Rattle.counted_ring.specs.Device.{WqReader}
use Rattle.counted_ring.specs.DeviceView.{MayDeliver, after_deliver, delivered}

-- whose an operation on the queue's words is, by its mark
abbrev pub is_posters : WqMark → Bool
is_posters Post = true
is_posters Ring = true
is_posters _ = false

abbrev pub is_retirers : WqMark → Bool
is_retirers (Lookup counter from) = true
is_retirers Count = true
is_retirers (Retire end) = true
is_retirers _ = false

abbrev pub is_devices : WqMark → Bool
is_devices Look = true
is_devices (Record passes) = true
is_devices Read = true
is_devices _ = false

-- the operations of one user, in order
abbrev pub of_user : WqPlace → (WqMark → Bool) → List (Marked WqMark) → List (Marked WqMark)
of_user place is_users trace = filter (λ x. touches place x.entry.addr && is_users x.mark) trace

-- the host's two users: an operation of the host's is one user's, by its mark, and keeps that user's rule
pub record QueueHost : Type 0 where
  pub poster : Poster
  pub finder : Finder

abbrev pub MayUse : WqPlace → QueueHost → WqMark → BusEntry → Type 0
MayUse place h Post e = MayBring place h.poster Post e
MayUse place h Ring e = MayBring place h.poster Ring e
MayUse place h mark e = MayFind place h.finder mark e

abbrev pub after_use : WqPlace → QueueHost → WqMark → BusEntry → QueueHost
after_use place h Post e = record { poster = after_bring place h.poster Post e; finder = h.finder }
after_use place h Ring e = record { poster = after_bring place h.poster Ring e; finder = h.finder }
after_use place h mark e = record { poster = h.poster; finder = after_find place h.finder mark e }

abbrev pub used : WqPlace → QueueHost → WqMark → BusEntry → Option WqEvent
used place h Post e = brought place h.poster Post e
used place h Ring e = brought place h.poster Ring e
used place h mark e = finds place h.finder mark e

abbrev pub queue_object : WqPlace → Object (Marked WqMark) WqReader QueueHost Queue WqEvent
queue_object place = record {
  entry = λ x. x.entry;
  role = λ x. role_of x.mark;
  touches = touches place;
  may_device = λ d x. MayDeliver place d x.mark x.entry;
  after_device = λ d x. after_deliver place d x.mark x.entry;
  device_says = λ d x. delivered place d x.mark x.entry;
  may_host = λ h x. MayUse place h x.mark x.entry;
  after_host = λ h x. after_use place h x.mark x.entry;
  host_says = λ h x. used place h x.mark x.entry;
  may = MayHappen place;
  after = after_event place;
}

-- the users before their first operation; the queue's first block has this index
abbrev pub fresh_poster : ℕ → Poster
fresh_poster index = record { count = 0; index = index; first = 0; seen = 0; stage = Ready }

abbrev pub fresh_finder : Finder
fresh_finder = record { retirer = record { tail = 0; found = 0; asked = None }; ends = [] }

abbrev pub fresh_host : ℕ → QueueHost
fresh_host index = record { poster = fresh_poster index; finder = fresh_finder }

abbrev pub fresh_device : ℕ → WqReader
fresh_device index = record { next = index; ready = 0; register = 0; words = [] }

-- the queue's words before its first request: nothing is retired, and nothing is rung
pub record IsStart (place : WqPlace) (index : ℕ) (start : Memory) : Type 0 where
  pub low : index < 2 ^ 62
  pub tail : start place.tail ≡ 0
  pub recorded : start place.dbr ≡ record_of index

-- what the marked operations of a trace say, in order
abbrev pub history : WqPlace → ℕ → List (Marked WqMark) → List WqEvent
history place index trace = two.history (queue_object place) (fresh_device index) (fresh_host index) trace

-- A consistent trace of a queue whose three users keep their rules, each over its own operations, while nobody else writes the queue's words, and whose retirer looks up what was taken.
pub record IsRun (place : WqPlace) (index : ℕ) (start : Memory) (trace : List (Marked WqMark)) : Type 0 where
  pub place_ok : IsPlace place
  pub start_ok : IsStart place index start
  pub consistent : IsConsistent start (entries trace)
  pub poster : Follows (λ (p : Poster) (x : Marked WqMark). MayBring place p x.mark x.entry) (λ (p : Poster) (x : Marked WqMark). after_bring place p x.mark x.entry) (fresh_poster index) (of_user place is_posters trace)
  pub retirer : Follows (λ (f : Finder) (x : Marked WqMark). MayFind place f x.mark x.entry) (λ (f : Finder) (x : Marked WqMark). after_find place f x.mark x.entry) fresh_finder (of_user place is_retirers trace)
  pub device : Follows (λ (d : WqReader) (x : Marked WqMark). MayDeliver place d x.mark x.entry) (λ (d : WqReader) (x : Marked WqMark). after_deliver place d x.mark x.entry) (fresh_device index) (of_user place is_devices trace)
  pub others : AllByRecursion (IsHarmless (queue_object place)) trace
  pub asks : AsksInOrder place (empty_queue index) (history place index trace)
