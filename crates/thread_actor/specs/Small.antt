-- Counts and indices of a thread, which rise.
use Rattle.std.specs.Prelude.{ℕ, ◌^◌, ◌<◌}
use Rattle.verbs_types.specs.declared.completion.Queue.{Queue}
use Rattle.owner_ring.specs.Consumer.{Consumer, Waiting, Reading}
use Rattle.counted_ring.specs.Poster.{Poster}
use Rattle.actor_rules.specs.Thread.{Thread}
use Rattle.thread_actor.specs.View.{ThreadView, thread_of}

-- what was posted is below this
pub record IsPosterBelow (most : ℕ) (p : Poster) : Type 0 where
  pub count : p.count < most
  pub index : p.index < most

-- what was taken or is being read is below this
abbrev pub IsHostBelow : ℕ → Consumer → Type 0
IsHostBelow most (Waiting acked next) = next < most
IsHostBelow most (Reading acked next index last words) = (next < most) × (index < most)

pub record IsBelow (most : ℕ) (t : Thread) : Type 0 where
  pub posters : (queue : Queue) → IsPosterBelow most (t.posters queue)
  pub polls : (cq : ℕ) → IsHostBelow most (t.polls cq).host

-- counts and indices are below 2 ^ 61
abbrev pub IsSmall : ThreadView → Type 0
IsSmall v = IsBelow (2 ^ 61) (thread_of v)
