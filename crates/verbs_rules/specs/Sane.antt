-- What verbs queues keep, whoever uses them: of each state to which a legal history leads. Of receive queues there is nothing to keep yet: no receive is taken.
use Rattle.std.specs.Prelude.{ℕ, ◌≡◌, ◌+◌, ◌-◌, ◌<◌, ◌≤◌, Bool, true, if◌then◌else◌, List, [], ◌∷◌, ◌++◌, length, map}
use Rattle.std.specs.List.{AllByRecursion}
use Rattle.verbs_types.specs.declared.completion.Queue.TheVariants.{Send}
use Rattle.verbs_types.specs.declared.declaration.TheConstants.{FIRST_QP}
use Rattle.verbs_types.specs.declared.state.Act.{Act}
use Rattle.verbs_types.specs.declared.state.Act.TheVariants.{Complete}
use Rattle.verbs_types.specs.declared.state.QueuePair.{QueuePair}
use Rattle.verbs_types.specs.declared.state.Unpolled.{Unpolled}
use Rattle.verbs_rules.specs.Same.{same_queue}
use Rattle.verbs_rules.specs.State.{Verbs}
use Rattle.verbs_rules.specs.OfOne.{WorkQueue, queue_in}

-- The requests of a queue pair that are under way

-- the numbers of a queue pair's requests among these completions
abbrev pub numbers_in : ℕ → List Unpolled → List ℕ
numbers_in qp [] = []
numbers_in qp (u ∷ us) = if same_queue (Send qp) u.completion.queue then u.number ∷ numbers_in qp us else numbers_in qp us

abbrev pub completed_by : Act → Unpolled
completed_by (Complete cq u) = u

-- of the requests that were taken, those whose completion no poll took yet, in order
abbrev pub waiting : Verbs → ℕ → List ℕ
waiting v qp = numbers_in qp (v.unpolled (v.device.pairs qp).send_cq) ++ numbers_in qp (map completed_by v.device.owed)

-- the numbers ascend, from above the least up to the most
abbrev pub Climbs : ℕ → List ℕ → ℕ → Type 0
Climbs least [] most = least ≤ most
Climbs least (n ∷ ns) most = (least < n) × Climbs n ns most

-- Each queue

-- a send queue, of which the requests `waits` wait
pub record QueueSane (u : WorkQueue) (waits : List ℕ) : Type 0 where
  pub taken : u.taken ≤ length u.posted
  pub outstanding : length u.posted - u.retired ≤ u.room
  -- what was polled and what waits are requests that were taken and not retired, in order
  pub under_way : Climbs u.retired (u.ends ++ waits) u.taken

-- the completion is of a living queue pair that completes into this queue
pub record IsHomed (lives : ℕ → Bool) (pairs : ℕ → QueuePair) (cq : ℕ) (u : Unpolled) : Type 0 where
  pub living : lives u.completion.qp ≡ true
  pub queue : u.completion.queue ≡ Send u.completion.qp
  pub home : (pairs u.completion.qp).send_cq ≡ cq

abbrev pub IsHomedAct : (ℕ → Bool) → (ℕ → QueuePair) → Act → Type 0
IsHomedAct lives pairs (Complete cq u) = IsHomed lives pairs cq u

pub record CompletionsSane (lives : ℕ → Bool) (pairs : ℕ → QueuePair) (cq produced_now acked_now : ℕ) (unpolled : List Unpolled) : Type 0 where
  pub homed : AllByRecursion (IsHomed lives pairs cq) unpolled
  pub acked : acked_now + length unpolled ≤ produced_now

-- The whole: n queue pairs

-- a queue pair that lives is one of n, and completes into a queue that lives
pub record IsPair (n : ℕ) (pairs : ℕ → QueuePair) (cqs : ℕ → Bool) (qp : ℕ) : Type 0 where
  pub least : FIRST_QP ≤ qp
  pub most : qp - FIRST_QP < n
  pub home : cqs (pairs qp).send_cq ≡ true

pub record Sane (n : ℕ) (v : Verbs) : Type 0 where
  pub lives : (qp : ℕ) → v.device.pair_lives qp ≡ true → IsPair n v.device.pairs v.device.completions_live qp
  pub queues : (qp : ℕ) → QueueSane (queue_in v (Send qp)) (waiting v qp)
  pub completions : (cq : ℕ) → CompletionsSane v.device.pair_lives v.device.pairs cq (v.device.produced cq) (v.acked cq) (v.unpolled cq)
  pub hand : AllByRecursion (IsHomedAct v.device.pair_lives v.device.pairs) v.device.owed
