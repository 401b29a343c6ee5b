-- Whose a side of a queue is: each belongs to one thread.
use Rattle.std.specs.Prelude.{ℕ, ◌+◌, ◌==◌, Bool, false, List, [], ◌∷◌, if◌then◌else◌}
use Rattle.std.specs.List.{list_any}
use Rattle.verbs_types.specs.declared.call.Call.{Call}
use Rattle.verbs_types.specs.declared.completion.Queue.{Queue}
use Rattle.verbs_rules.specs.Same.{same_queue}
use Rattle.verbs_rules.specs.Shape.{Shape, Posts, Takes, shape_of}

abbrev pub posts_to : Queue → Shape → Bool
posts_to queue (Posts q items) = same_queue queue q
posts_to queue _ = false

abbrev pub takes_of : ℕ → Shape → Bool
takes_of cq (Takes c taking) = cq == c
takes_of cq _ = false

-- the call posts on this queue
abbrev pub posts_on : Queue → Call → Bool
posts_on queue call = posts_to queue (shape_of call)

-- the call takes completions of this queue
abbrev pub polls_on : ℕ → Call → Bool
polls_on cq call = takes_of cq (shape_of call)

-- the number, from 1, of the first program with such a call, and one more than there are where none has
abbrev pub first_with : (Call → Bool) → List (List Call) → ℕ
first_with test [] = 1
first_with test (calls ∷ programs) = if list_any test calls then 1 else first_with test programs + 1

abbrev pub poster_of : List (List Call) → Queue → ℕ
poster_of programs queue = first_with (posts_on queue) programs

abbrev pub poller_of : List (List Call) → ℕ → ℕ
poller_of programs cq = first_with (polls_on cq) programs
