-- What all parts of the state say of one work queue, and of one completion queue.
use Rattle.std.specs.Prelude.{ℕ, ◌-◌, List, length}
use Rattle.verbs_types.specs.declared.request.Item.{Item}
use Rattle.verbs_types.specs.declared.completion.Queue.{Queue}
use Rattle.verbs_types.specs.declared.state.Unpolled.{Unpolled}
use Rattle.verbs_rules.specs.State.{Verbs}

-- a send or receive queue
pub record WorkQueue : Type 0 where
  pub room : ℕ
  pub segments : ℕ
  pub posted : List Item
  pub taken : ℕ
  pub retired : ℕ
  pub ends : List ℕ

abbrev pub queue_in : Verbs → Queue → WorkQueue
queue_in v queue = record {
  room = v.limits.room queue;
  segments = v.limits.segments queue;
  posted = v.posted queue;
  taken = v.device.taken queue;
  retired = (v.settled queue).retired;
  ends = (v.settled queue).ends;
}

-- how many more requests may be posted now
abbrev pub free_of : WorkQueue → ℕ
free_of u = u.room - (length u.posted - u.retired)

pub record CompletionQueue : Type 0 where
  pub size : ℕ
  pub produced : ℕ
  pub acked : ℕ
  pub unpolled : List Unpolled

abbrev pub completions_in : Verbs → ℕ → CompletionQueue
completions_in v cq = record {
  size = v.limits.size cq;
  produced = v.device.produced cq;
  acked = v.acked cq;
  unpolled = v.unpolled cq;
}
