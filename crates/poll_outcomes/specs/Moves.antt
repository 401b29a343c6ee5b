-- What an operation of a poll makes of the poll, of the lists and of the abstract state.
use Rattle.std.specs.Prelude.{◌≡◌, ◌≢◌, ℕ, List}
use Rattle.bus_core.specs.Trace.{Memory}
use Rattle.verbs_types.specs.declared.completion.Completion.{Completion}
use Rattle.verbs_types.specs.declared.completion.Queue.{Queue}
use Rattle.verbs_types.specs.declared.completion.Queue.TheVariants.{Send}
use Rattle.verbs_types.specs.declared.declaration.Lines.{Lines}
use Rattle.verbs_rules.specs.State.{Verbs}
use Rattle.verbs_rules.specs.OfOne.{completions_in}
use Rattle.counted_ring.specs.Queue as counted
use Rattle.object_places.specs.Objects.{Lives, Sends}
use Rattle.provider_poll.specs.Rule.{PollRule}
use Rattle.device_engine.specs.State.{send_cq}
use Rattle.actor_rules.specs.Family.{put_number}
use Rattle.actor_rules.specs.View.{View}
use Rattle.actor_rules.specs.Objects.{Lists, AllTiedIn}
use Rattle.actor_rules.specs.Completions.{CompletionsStand}
use Rattle.actor_rules.specs.Thread.{QueueLives}

-- what others see of it: the side of one completion queue, and what it has given
abbrev pub polled_view : View → ℕ → PollRule → List Completion → View
polled_view s cq p given = record s { polls = put_number s.polls cq p; given = put_number s.given cq given }

-- the requests of a work queue are as they were
pub record SameRequests (q now : counted.Queue) : Type 0 where
  pub requests : now.requests ≡ q.requests
  pub next : now.next ≡ q.next
  pub rung : now.rung ≡ q.rung
  pub taken : now.taken ≡ q.taken

-- a poll's entries leave what is declared, what was posted and what the adapter changes
pub record SameVerbs (v now : Verbs) : Type 0 where
  pub limits : now.limits ≡ v.limits
  pub posted : now.posted ≡ v.posted
  pub device : now.device ≡ v.device

-- what an operation has made of the poll, the lists and the state
pub record Moves (d : Lines) (around : View) (cq : ℕ) (m : Memory) (l : Lists) (v : Verbs) (p : PollRule) (given : List Completion) (v' : Verbs) : Type 0 where
  pub lists : Lists
  pub objects : AllTiedIn d m (polled_view around cq p given) lists
  pub words : (queue : Queue) → SameRequests (l.queues queue) (lists.queues queue)
  pub verbs : SameVerbs v v'
  pub retired : (queue : Queue) → QueueLives d queue → (v'.settled queue).retired ≡ (lists.queues queue).retired
  pub plain : (k : ℕ) → k ≢ cq → lists.completions k ≡ l.completions k
  pub others : (k : ℕ) → k ≢ cq → completions_in v' k ≡ completions_in v k
  pub ends : (qp : ℕ) → Lives d (Sends qp) → send_cq d qp ≢ cq → (v'.settled (Send qp)).ends ≡ (v.settled (Send qp)).ends
  pub completions : CompletionsStand d lists p given v' cq
