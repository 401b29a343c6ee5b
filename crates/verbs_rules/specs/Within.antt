-- What the size of the programs ensures, and what their threads owe: that no completion queue overruns, and that each entry which is owed next can be made.
use Rattle.std.specs.Prelude.{ℕ, zero, suc, ◌≡◌, ◌+◌, ◌==◌, ◌≤◌, Bool, true, if◌then◌else◌, List, [], ◌∷◌, length}
use Rattle.std.specs.List.{AllByRecursion}
use Rattle.verbs_types.specs.declared.completion.Queue.TheVariants.{Send}
use Rattle.verbs_types.specs.declared.declaration.TheConstants.{FIRST_QP}
use Rattle.verbs_types.specs.declared.entry.What.{What}
use Rattle.verbs_types.specs.declared.request.Item.{Item}
use Rattle.verbs_types.specs.declared.state.Act.{Act}
use Rattle.verbs_types.specs.declared.state.Act.TheVariants.{Complete}
use Rattle.verbs_types.specs.declared.state.QueuePair.{QueuePair}
use Rattle.verbs_rules.specs.State.{Verbs}
use Rattle.verbs_rules.specs.OfOne.{queue_in, free_of}
use Rattle.verbs_rules.specs.Step.{MayStep, after}
use Rattle.verbs_rules.specs.Answered.{Due}
use Rattle.verbs_rules.specs.Proper.{IsNop, Owing, items_on, retires_on, over_dues}
use Rattle.verbs_rules.specs.Sane.{Sane}

-- how many requests a queue pair has at most, and the index of a completion queue's first completion
pub record Bounds : Type 0 where
  pub posts : ℕ → ℕ
  pub first : ℕ → ℕ

-- how many completions are owed to the queue
abbrev pub owed_into : ℕ → List Act → ℕ
owed_into cq [] = 0
owed_into cq (Complete owner u ∷ acts) = (if owner == cq then 1 else 0) + owed_into cq acts

-- the sum over those of n queue pairs, numbered from qp on, that complete into the queue
abbrev pub into : (ℕ → QueuePair) → (ℕ → ℕ) → ℕ → ℕ → ℕ → ℕ
into pairs count cq qp zero = 0
into pairs count cq qp (suc n) = (if (pairs qp).send_cq == cq then count qp else 0) + into pairs count cq (qp + 1) n

-- of a send queue: `items` are still to be posted and `retired_after` to be retired; in all at most `total` are posted
pub record QueueWithin (posted : List Item) (ends : List ℕ) (items retired_after total : ℕ) : Type 0 where
  pub nops : AllByRecursion IsNop posted
  pub posts : length posted + items ≤ total
  pub retires : retired_after ≡ length ends

-- of a completion queue to which `owes` completions are owed; `takes` requests that complete into it were taken, and at
-- most `most` can be
pub record CompletionsWithin (live : Bool) (size produced_now acked_now owes takes most first : ℕ) : Type 0 where
  -- its first completion ever had this index
  pub begun : first ≤ acked_now
  pub produced : produced_now + owes ≤ first + takes
  pub fits : live ≡ true → most ≤ size

abbrev pub taken_of : Verbs → ℕ → ℕ
taken_of v qp = v.device.taken (Send qp)

abbrev pub free_on : Verbs → ℕ → ℕ
free_on v qp = free_of (queue_in v (Send qp))

-- of n queue pairs, within these bounds, where threads owe this
pub record Within (n : ℕ) (bounds : Bounds) (v : Verbs) (dues : List (List Due)) : Type 0 where
  pub queues : (qp : ℕ) → QueueWithin (v.posted (Send qp)) (v.settled (Send qp)).ends (over_dues (items_on qp) dues) (over_dues (retires_on qp) dues) (bounds.posts qp)
  pub completions : (cq : ℕ) → CompletionsWithin (v.device.completions_live cq) (v.limits.size cq) (v.device.produced cq) (v.acked cq) (owed_into cq v.device.owed) (into v.device.pairs (taken_of v) cq FIRST_QP n) (into v.device.pairs bounds.posts cq FIRST_QP n) (bounds.first cq)
  pub owing : Owing v.device.pair_lives v.device.completions_live (free_on v) dues

pub record InBounds (n : ℕ) (bounds : Bounds) (v : Verbs) (dues : List (List Due)) : Type 0 where
  pub sane : Sane n v
  pub within : Within n bounds v dues

-- the entry is a legal step, and all stays in bounds, where the threads owe this after it
pub record Goes (n : ℕ) (bounds : Bounds) (v : Verbs) (actor : ℕ) (what : What) (dues : List (List Due)) : Type 0 where
  pub legal : MayStep v (record { actor = actor; what = what })
  pub bounded : InBounds n bounds (after v what) dues
