-- The sides of all objects, and what their owners are about, by object. Owners are looked up here alone.
use Rattle.std.specs.Prelude.{ℕ, if◌then◌else◌, List, [], ◌∷◌, take, Option, None, Some}
use Rattle.verbs_types.specs.declared.call.Call.{Call}
use Rattle.verbs_types.specs.declared.completion.Completion.{Completion}
use Rattle.verbs_types.specs.declared.completion.Queue.{Queue}
use Rattle.verbs_types.specs.declared.request.Item.{Item}
use Rattle.verbs_rules.specs.Same.{same_queue}
use Rattle.verbs_rules.specs.Shape.{Shape, Posts, shape_of}
use Rattle.counted_ring.specs.Poster.{Poster}
use Rattle.counted_ring.specs.Device.{WqReader}
use Rattle.cq_pair.specs.Device.{QueueDevice}
use Rattle.provider_post.specs.declared.call.Call as post
use Rattle.provider_poll.specs.declared.state.PollState.{PollState}
use Rattle.provider_poll.specs.declared.state.PollState.TheVariants as states
use Rattle.provider_poll.specs.Rule.{PollRule}
use Rattle.actor_rules.specs.Owners.{poster_of, poller_of}
use Rattle.actor_rules.specs.Thread.{Thread}
use Rattle.actor_rules.specs.Actors.{Actors}

-- the items of a call that are written and not yet rung
abbrev pub accepted : Option post.Call → List Item → List Item
accepted None items = []
accepted (Some call) items = if call.recorded then [] else take call.accepted items

abbrev pub written_of : Queue → Option post.Call → Shape → List Item
written_of queue posting (Posts q items) = if same_queue queue q then accepted posting items else []
written_of queue posting _ = []

abbrev pub written_in : Queue → Option post.Call → List Call → List Item
written_in queue posting [] = []
written_in queue posting (call ∷ rest) = written_of queue posting (shape_of call)

-- what the poll under way has given; none is under way where it rests
abbrev pub given_in : PollState → List Completion → List Completion
given_in states.Idle given = []
given_in _ given = given

pub record View : Type 0 where
  -- the sides that post; what each has written and not rung, and what the history tells of it
  pub posters : Queue → Poster
  pub written : Queue → List Item
  pub told : Queue → List Item
  -- the sides that poll, and what each has given
  pub polls : ℕ → PollRule
  pub given : ℕ → List Completion
  -- the adapter's sides, and how many it has taken of each send queue
  pub readers : ℕ → WqReader
  pub devices : ℕ → QueueDevice
  pub taken : ℕ → ℕ

abbrev pub post_written : Queue → Thread → List Item
post_written queue t = written_in queue t.posting t.calls

abbrev pub poll_given : ℕ → Thread → List Completion
poll_given cq t = given_in (t.polls cq).state t.given

abbrev pub view : List (List Call) → Actors → View
view programs w = record {
  posters = λ queue. (w.threads (poster_of programs queue)).posters queue;
  written = λ queue. post_written queue (w.threads (poster_of programs queue));
  told = w.posted;
  polls = λ cq. (w.threads (poller_of programs cq)).polls cq;
  given = λ cq. poll_given cq (w.threads (poller_of programs cq));
  readers = w.adapter.readers;
  devices = w.adapter.queues;
  taken = w.adapter.taken;
}
