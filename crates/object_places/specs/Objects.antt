-- The queues of declared objects, and what an operation of an actor is about.
use Rattle.std.specs.Prelude.{ℕ, Bool, IsTrue, length}
use Rattle.verbs_types.specs.declared.declaration.Lines.{Lines}
use Rattle.verbs_types.specs.declared.declaration.TheConstants.{FIRST_QP}
use Rattle.verbs_types.specs.Lines.{is_among}
use Rattle.owner_ring.specs.Place as ring
use Rattle.cq_pair.specs.Mark.{QueueMark}
use Rattle.cq_pair.specs.Place.{ring_of}
use Rattle.counted_ring.specs.Mark.{WqMark}
use Rattle.counted_ring.specs.Place as counted
use Rattle.object_places.specs.Places.{completions_of, send_of, receive_of}

-- a completion queue, or one of a queue pair's two queues, by number
pub data Object : Type 0 where
  Completions : (cq : ℕ) → Object
  Sends : (qp : ℕ) → Object
  Receives : (qp : ℕ) → Object

-- there is such an object
abbrev pub lives : Lines → Object → Bool
lives d (Completions cq) = is_among 0 (length d.cqs) cq
lives d (Sends qp) = is_among FIRST_QP (length d.qps) qp
lives d (Receives qp) = is_among FIRST_QP (length d.qps) qp

abbrev pub Lives : Lines → Object → Type 0
Lives d o = IsTrue (lives d o)

-- whether the address is one of the object's words
abbrev pub touches : Lines → Object → ℕ → Bool
touches d (Completions cq) address = ring.touches (ring_of (completions_of d cq)) address
touches d (Sends qp) address = counted.touches (send_of d qp) address
touches d (Receives qp) address = counted.touches (receive_of d qp) address

-- an operation is on a queue's words, with that queue's own mark, or on the word of actors that ended
pub data Mark : Type 0 where
  OnCompletions : (cq : ℕ) (mark : QueueMark) → Mark
  OnSends : (qp : ℕ) (mark : WqMark) → Mark
  OnReceives : (qp : ℕ) (mark : WqMark) → Mark
  Ends : Mark
