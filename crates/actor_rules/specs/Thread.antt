-- A thread before its next operation.
use Rattle.std.specs.Prelude.{ℕ, zero, suc, slice_index_or, ◌&&◌, nat_le, nat_lt, not, Bool, List, [], Option, None, length}
use Rattle.verbs_types.specs.declared.call.Call.{Call}
use Rattle.verbs_types.specs.declared.completion.Completion.{Completion}
use Rattle.verbs_types.specs.declared.completion.Queue.{Queue}
use Rattle.verbs_types.specs.declared.completion.Queue.TheVariants.{Send, Recv, Shared}
use Rattle.verbs_types.specs.declared.declaration.Lines.{Lines}
use Rattle.counted_ring.specs.declared.place.WqPlace.{WqPlace}
use Rattle.counted_ring.specs.Poster.{Poster}
use Rattle.counted_ring.specs.Law.{fresh_poster}
use Rattle.object_places.specs.Places.{send_of, receive_of, qp_line}
use Rattle.object_places.specs.Objects.{Object, Lives, Sends, Receives}
use Rattle.provider_post.specs.declared.call.Call as post
use Rattle.provider_poll.specs.Fresh.{fresh_rule}
use Rattle.provider_poll.specs.Rule.{PollRule}

pub record Thread : Type 0 where
  -- the calls that are left, of which the first is under way or begins next; of a drain that is under way as many
  -- completions are left as it says
  pub calls : List Call
  -- how far the post has come that is under way
  pub posting : Option post.Call
  -- the completions that the poll under way has given
  pub given : List Completion
  -- the sides that post, and those that poll, by queue
  pub posters : Queue → Poster
  pub polls : ℕ → PollRule
  -- whether it has set its bit in the word of ended actors
  pub ended : Bool

-- the calls of a thread, which is numbered from 1
abbrev pub program_of : List (List Call) → ℕ → List Call
program_of programs zero = []
program_of programs (suc t) = slice_index_or programs t []

-- where a work queue lies; no shared receive queue can be declared yet
abbrev pub queue_place : Lines → Queue → WqPlace
queue_place d (Send qp) = send_of d qp
queue_place d (Recv qp) = receive_of d qp
queue_place d (Shared srq) = receive_of d srq

-- which object it is
abbrev pub queue_object : Queue → Object
queue_object (Send qp) = Sends qp
queue_object (Recv qp) = Receives qp
queue_object (Shared srq) = Receives srq

-- it is one of a declared queue pair
abbrev pub QueueLives : Lines → Queue → Type 0
QueueLives d (Send qp) = Lives d (Sends qp)
QueueLives d (Recv qp) = Lives d (Receives qp)
QueueLives d (Shared srq) = ⊥

-- how many scatter/gather entries a request of it may have
abbrev pub segments_of : Lines → Queue → ℕ
segments_of d (Send qp) = (qp_line d qp).segments
segments_of d (Recv qp) = (qp_line d qp).segments
segments_of d (Shared srq) = 0

-- the index of the queue's first entry
abbrev pub queue_start : Lines → Queue → ℕ
queue_start d (Send qp) = (qp_line d qp).start
queue_start d (Recv qp) = (qp_line d qp).start
queue_start d (Shared srq) = 0

-- the threads are numbered from 1; an actor that is no thread has ended
abbrev pub is_thread : List (List Call) → ℕ → Bool
is_thread programs x = nat_lt 0 x && nat_le x (length programs)

abbrev pub fresh_thread : Lines → List (List Call) → ℕ → Thread
fresh_thread d programs x = record {
  calls = program_of programs x;
  posting = None;
  given = [];
  posters = λ queue. fresh_poster (queue_start d queue);
  polls = fresh_rule d;
  ended = not (is_thread programs x);
}
