-- The state of verbs queues in parts, by who changes them: plain lists and whole numbers.
use Rattle.std.specs.Prelude.{ℕ, Bool, List}
use Rattle.verbs_types.specs.declared.request.Item.{Item}
use Rattle.verbs_types.specs.declared.completion.Queue.{Queue}
use Rattle.verbs_types.specs.declared.state.Unpolled.{Unpolled}
use Rattle.verbs_types.specs.declared.state.Act.{Act}
use Rattle.verbs_types.specs.declared.state.QueuePair.{QueuePair}

-- what is declared; no entry changes it
pub record Limits : Type 0 where
  -- of a work queue: how many requests may be outstanding, and how many segments one may have
  pub room : Queue → ℕ
  pub segments : Queue → ℕ
  -- of a completion queue: how many completions it holds
  pub size : ℕ → ℕ

-- what the poller of a work queue's completions changes
pub record Settled : Type 0 where
  -- how many requests are retired
  pub retired : ℕ
  -- the numbers, from 1, of the requests whose completion was polled and that are not yet retired
  pub ends : List ℕ

-- what the adapter alone changes
pub record Device : Type 0 where
  -- how many requests of each work queue it took
  pub taken : Queue → ℕ
  -- of each completion queue: one past the index of the newest completion
  pub produced : ℕ → ℕ
  pub pairs : ℕ → QueuePair
  -- which queue pairs and completion queues live
  pub pair_lives : ℕ → Bool
  pub completions_live : ℕ → Bool
  -- what it still owes for the work entry that it is in
  pub owed : List Act

pub record Verbs : Type 0 where
  pub limits : Limits
  -- all that was ever posted, by the poster of each work queue
  pub posted : Queue → List Item
  pub settled : Queue → Settled
  -- the consumer index that the poller of a completion queue last stored
  pub acked : ℕ → ℕ
  -- the completions that no poll took, the oldest first: the adapter adds behind, and polls take from the front
  pub unpolled : ℕ → List Unpolled
  pub device : Device
