-- What ties a completion queue of words, and the poll that is under way, to the abstract state.
use Rattle.std.specs.Prelude.{Bool, ◌≡◌, ℕ, ◌+◌, ◌-◌, ◌<◌, ◌≤◌, ◌==◌, false, List, [], ◌∷◌, length, map, take, slice_get, position, Option, None, Some, if◌then◌else◌}
use Rattle.std.specs.List.{AllByRecursion}
use Rattle.verbs_types.specs.declared.completion.Completion.{Completion}
use Rattle.verbs_types.specs.declared.completion.Queue.TheVariants.{Send}
use Rattle.verbs_types.specs.declared.declaration.Lines.{Lines}
use Rattle.verbs_types.specs.declared.state.Unpolled.{Unpolled}
use Rattle.verbs_rules.specs.Rows.{nop_completion}
use Rattle.verbs_rules.specs.State.{Verbs}
use Rattle.verbs_rules.specs.OfOne.{CompletionQueue, completions_in}
use Rattle.cqe_format.specs.declared.completion.Cqe.{Cqe}
use Rattle.owner_ring.specs.Place.{size}
use Rattle.owner_ring.specs.Consumer.{Consumer, Waiting, Reading, next_index}
use Rattle.cq_pair.specs.Place.{ring_of}
use Rattle.cq_pair.specs.Queue.{PlainQueue, produced, since}
use Rattle.counted_ring.specs.Queue as counted
use Rattle.verbs_types.specs.declared.completion.Queue.{Queue}
use Rattle.counted_ring.specs.Retirer.{Asked, Retirer}
use Rattle.counted_ring.proofs.Requests.{request_of}
use Rattle.object_places.specs.Objects.{Lives, Sends}
use Rattle.object_places.specs.Places.{completions_of}
use Rattle.provider_poll.specs.declared.state.End.{End}
use Rattle.provider_poll.specs.declared.state.PollState.{PollState}
use Rattle.provider_poll.specs.declared.state.PollState.TheVariants as states
use Rattle.provider_poll.specs.Rule.{PollRule}
use Rattle.device_engine.specs.Entry.{nop_cqe}
use Rattle.device_engine.specs.State.{send_cq}
use Rattle.provider_poll.specs.Fresh.{senders}
use Rattle.actor_rules.specs.Polling.{place_in}
use Rattle.actor_rules.specs.Matching.{Match}
use Rattle.actor_rules.specs.Objects.{Lists, retirer_in}

-- A completion of words is this one: of a request that was taken, at its block, with its id.
pub record IsCompletionOf (words_of : Queue → counted.Queue) (c : Cqe) (u : Unpolled) : Type 0 where
  pub some : 0 < u.number
  pub taken : u.number ≤ (words_of (Send u.completion.qp)).taken
  pub words : c ≡ nop_cqe u.completion.qp (counted.index_of (words_of (Send u.completion.qp)) (u.number - 1))
  pub told : u.completion ≡ nop_completion u.completion.qp (request_of (words_of (Send u.completion.qp)) (u.number - 1)).id 0

abbrev pub IsCompletion : Lists → Cqe → Unpolled → Type 0
IsCompletion l = IsCompletionOf l.queues

-- the place of a queue pair that completes into the queue
pub record HasPlace (d : Lines) (cq qp : ℕ) : Type 0 where
  pub is : position (λ n. n == qp) (senders d cq) ≡ Some (place_in d cq qp)
  pub there : slice_get (senders d cq) (place_in d cq qp) ≡ Some qp
  pub inside : place_in d cq qp < length (senders d cq)

-- how many completions the poll under way holds, of which no entry tells yet
abbrev pub held : PollState → ℕ
held (states.Polling most ends) = length ends.items
held (states.LookingUp most ends c queue) = length ends.items + 1
held _ = 0

-- the ends that the poll under way has still to store, of which its entry has told
abbrev pub pending : PollState → List End
pending (states.Retiring taken empty left) = left.items
pending _ = []

-- those of the queue at this place
abbrev pub ends_on : ℕ → List End → List ℕ
ends_on place [] = []
ends_on place (e ∷ es) = if e.queue == place then e.end ∷ ends_on place es else ends_on place es

-- an end that was found for a completion: of its queue, and its request's number
pub record IsEnd (d : Lines) (cq : ℕ) (retirers : List Retirer) (e : End) (u : Unpolled) : Type 0 where
  pub queue : e.queue ≡ place_in d cq u.completion.qp
  pub end : e.end ≡ u.number
  pub found : u.number ≤ (retirer_in retirers e.queue).found

abbrev pub completion_in : Unpolled → Completion
completion_in u = u.completion

-- the first of the unpolled completions were given, and their ends found
pub record IsGiven (d : Lines) (cq : ℕ) (retirers : List Retirer) (completions : List Completion) (found : List End) (us : List Unpolled) : Type 0 where
  pub ends : Match (IsEnd d cq retirers) found (take (length found) us)
  pub given : completions ≡ map completion_in (take (length found) us)

-- the next one is looked up
pub record IsLookedUpIn (d : Lines) (cq : ℕ) (words_of : Queue → counted.Queue) (c : Cqe) (queue : ℕ) (next : Option Unpolled) : Type 0 where
  pub unpolled : Unpolled
  pub next_is : next ≡ Some unpolled
  pub spells : IsCompletionOf words_of c unpolled
  pub queue_is : queue ≡ place_in d cq unpolled.completion.qp

-- an end that is to be stored was found, and its queue is that of a queue pair that completes here
pub record IsPending (d : Lines) (cq : ℕ) (retirers : List Retirer) (e : End) : Type 0 where
  pub qp : ℕ
  pub place : position (λ n. n == qp) (senders d cq) ≡ Some (place_in d cq qp)
  pub queue : e.queue ≡ place_in d cq qp
  pub found : e.end ≤ (retirer_in retirers e.queue).found

-- how far the poll under way has come, with what it has given
abbrev pub PollIn : Lines → ℕ → (Queue → counted.Queue) → List Retirer → List Completion → List Unpolled → PollState → Type 0
PollIn d cq words_of retirers given us states.Idle = Unit {0}
PollIn d cq words_of retirers given us (states.Polling most ends) = IsGiven d cq retirers given ends.items us × (length ends.items < most) × (most ≤ 16)
PollIn d cq words_of retirers given us (states.LookingUp most ends c queue) = IsGiven d cq retirers given ends.items us × (length ends.items < most) × (most ≤ 16) × IsLookedUpIn d cq words_of c queue (slice_get us (length ends.items))
PollIn d cq words_of retirers given us (states.Retiring taken empty left) = (0 < length left.items) × (0 < taken) × AllByRecursion (IsPending d cq retirers) left.items
PollIn d cq words_of retirers given us (states.Acking taken empty) = 0 < taken

abbrev pub IsLookedUp : Lines → ℕ → Lists → Cqe → ℕ → Option Unpolled → Type 0
IsLookedUp d cq l c queue next = IsLookedUpIn d cq l.queues c queue next

abbrev pub PollStands : Lines → ℕ → Lists → PollRule → List Completion → List Unpolled → PollState → Type 0
PollStands d cq l p given us state = PollIn d cq l.queues p.retirers given us state

-- a lookup that has loaded an id is that of the completion that is looked up
abbrev pub AskedFor : PollState → ℕ → Option Asked → Type 0
AskedFor state place None = Unit {0}
AskedFor (states.LookingUp most ends c queue) place (Some a) = (queue ≡ place) × (a.counter ≡ c.counter)
AskedFor _ place (Some a) = ⊥

-- an entry that is read is the one after that which was taken last
abbrev pub ReadsNext : Consumer → Type 0
ReadsNext (Waiting acked next) = Unit {0}
ReadsNext (Reading acked next index last words) = index ≡ next

-- an entry that is read was seen as published
abbrev pub IsSeen : Consumer → ℕ → Type 0
IsSeen (Waiting acked next) seen = Unit {0}
IsSeen (Reading acked next index last words) seen = index < seen

-- What a poll has seen as published was published, and all that it holds was seen.
pub record Shows (host : Consumer) (seen held_now produced_now : ℕ) : Type 0 where
  pub least : seen ≤ produced_now
  pub enough : 0 < held_now → next_index host ≤ seen
  pub reading : IsSeen host seen

-- the counts of the abstract queue are those of the words
pub record Counts (acked_is produced_is size_is : ℕ) (overrun_is : Bool) (acked_words produced_words size_words : ℕ) : Type 0 where
  pub acked : acked_is ≡ acked_words
  pub produced : produced_is ≡ produced_words
  pub size : size_is ≡ size_words
  pub runs : overrun_is ≡ false

-- A completion queue of words, polled so, stands for this one, where the requests are of these work queues and these ends are told.
pub record CompletionsIn (d : Lines) (cq : ℕ) (words_of : Queue → counted.Queue) (q : PlainQueue) (p : PollRule) (given : List Completion) (u : CompletionQueue) (ends_of : ℕ → List ℕ) : Type 0 where
  pub counts : Counts u.acked u.produced u.size q.overrun q.acked (produced q) (size (ring_of (completions_of d cq)))
  -- the index of the oldest completion of which no poll's entry tells
  pub from : ℕ
  pub from_is : from + held p.state ≡ next_index p.host
  pub low : q.acked ≤ from
  pub unpolled : Match (IsCompletionOf words_of) (since q from) u.unpolled
  pub reads : ReadsNext p.host
  pub shows : Shows p.host p.seen (held p.state) (produced q)
  pub poll : PollIn d cq words_of p.retirers given u.unpolled p.state
  pub retirers : length p.retirers ≡ length (senders d cq)
  pub asked : (place : ℕ) → AskedFor p.state place (retirer_in p.retirers place).asked
  pub ends : (qp : ℕ) → Lives d (Sends qp) → send_cq d qp ≡ cq → ends_of qp ≡ ends_on (place_in d cq qp) (pending p.state)

abbrev pub ends_in : Verbs → ℕ → List ℕ
ends_in v qp = (v.settled (Send qp)).ends

abbrev pub CompletionsStand : Lines → Lists → PollRule → List Completion → Verbs → ℕ → Type 0
CompletionsStand d l p given v cq = CompletionsIn d cq l.queues (l.completions cq) p given (completions_in v cq) (ends_in v)
