-- What stands before an operation of a poll.
use Rattle.std.specs.Prelude.{◌≡◌, ℕ, ◌<◌, ◌^◌, List, ◌++◌, map}
use Rattle.std.specs.List.{AllByRecursion}
use Rattle.bus_core.specs.Trace.{Memory}
use Rattle.verbs_types.specs.declared.completion.Completion.{Completion}
use Rattle.verbs_types.specs.declared.completion.Queue.{Queue}
use Rattle.verbs_types.specs.declared.completion.Queue.TheVariants.{Send}
use Rattle.verbs_types.specs.declared.declaration.Lines.{Lines}
use Rattle.verbs_types.specs.declared.state.Unpolled.{Unpolled}
use Rattle.verbs_rules.specs.State.{Verbs}
use Rattle.owner_ring.specs.Place.{IsPlace}
use Rattle.cq_pair.specs.Place.{ring_of}
use Rattle.cq_pair.proofs.Tied as completions
use Rattle.counted_ring.proofs.Tied as requests
use Rattle.object_places.specs.Objects.{Lives, Completions}
use Rattle.object_places.specs.Places.{send_of, completions_of}
use Rattle.provider_poll.specs.Rule.{PollRule}
use Rattle.actor_rules.specs.View.{View}
use Rattle.actor_rules.specs.Polling.{place_in}
use Rattle.verbs_rules.specs.Sane.{Climbs, numbers_in, completed_by}
use Rattle.actor_rules.specs.Objects.{AllTiedIn, Lists, retirer_in}
use Rattle.actor_rules.specs.Completions.{CompletionsStand, HasPlace}
use Rattle.actor_rules.specs.Threads.{IsPollFor}
use Rattle.actor_rules.specs.Holding.{IsMapped}
use Rattle.actor_rules.specs.Thread.{QueueLives}

-- a completion of a queue pair that has a place
pub record IsPlaced (d : Lines) (cq : ℕ) (u : Unpolled) : Type 0 where
  pub queue : u.completion.queue ≡ Send u.completion.qp
  pub place : HasPlace d cq u.completion.qp

-- of the completions that the adapter still holds
abbrev pub in_hand : Verbs → ℕ → List ℕ
in_hand v qp = numbers_in qp (map completed_by v.device.owed)

-- a poll of this thread, its queues and the state
pub record PollNow (d : Lines) (m : Memory) (around : View) (cq most : ℕ) (l : Lists) (v : Verbs) (p : PollRule) (given : List Completion) : Type 0 where
  pub mapped : IsMapped d
  pub objects : AllTiedIn d m around l
  pub retired : (queue : Queue) → QueueLives d queue → (v.settled queue).retired ≡ (l.queues queue).retired
  pub lives : Lives d (Completions cq)
  pub fine : IsPlace (ring_of (completions_of d cq))
  pub host_same : p.host ≡ (around.polls cq).host
  pub retirers_same : p.retirers ≡ (around.polls cq).retirers
  pub stands : CompletionsStand d l p given v cq
  pub polls : IsPollFor most given p.state
  pub host : completions.Tied (completions_of d cq) m (around.devices cq) p.host (l.completions cq)
  pub sends : (qp : ℕ) → HasPlace d cq qp → requests.Tied (send_of d qp) m (around.posters (Send qp)) (retirer_in p.retirers (place_in d cq qp)) (around.readers qp) (l.queues (Send qp))
  pub low : (qp : ℕ) → HasPlace d cq qp → (l.queues (Send qp)).taken < 2 ^ 62
  pub placed : AllByRecursion (IsPlaced d cq) (v.unpolled cq)
  pub under_way : (qp : ℕ) → HasPlace d cq qp → Climbs (l.queues (Send qp)).retired ((v.settled (Send qp)).ends ++ (numbers_in qp (v.unpolled cq) ++ in_hand v qp)) (l.queues (Send qp)).taken
