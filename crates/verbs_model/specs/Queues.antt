-- The state by whole queues: all that is known of one stands together, and the parts of the state are seen in it.
use Rattle.std.specs.Prelude.{ℕ, ◌+◌, ◌^◌, Bool, List, [], ◌∷◌, ◌++◌}
use Rattle.verbs_types.specs.declared.completion.Queue.{Queue}
use Rattle.verbs_types.specs.declared.declaration.CqLine.{CqLine}
use Rattle.verbs_types.specs.declared.request.Item.{Item}
use Rattle.verbs_types.specs.declared.state.Act.{Act}
use Rattle.verbs_types.specs.declared.state.QueuePair.{QueuePair}
use Rattle.verbs_types.specs.declared.state.Unpolled.{Unpolled}
use Rattle.verbs_rules.specs.Family.{put, same_number}
use Rattle.verbs_rules.specs.OfOne.{WorkQueue, CompletionQueue}
use Rattle.verbs_rules.specs.Rows.{rest_of}
use Rattle.verbs_rules.specs.Same.{same_queue}
use Rattle.verbs_rules.specs.State.{Settled, Verbs}

pub record AllQueues : Type 0 where
  pub queues : Queue → WorkQueue
  pub completions : ℕ → CompletionQueue
  pub pairs : ℕ → QueuePair
  pub pair_lives : ℕ → Bool
  pub completions_live : ℕ → Bool
  pub owed : List Act

abbrev pub settled_of : WorkQueue → Settled
settled_of u = record { retired = u.retired; ends = u.ends }

-- the state, each part of which is the same field of every queue
abbrev pub parts_of : AllQueues → Verbs
parts_of a = record {
  limits = record { room = λ (queue : Queue). (a.queues queue).room; segments = λ (queue : Queue). (a.queues queue).segments; size = λ (cq : ℕ). (a.completions cq).size };
  posted = λ (queue : Queue). (a.queues queue).posted;
  settled = λ (queue : Queue). settled_of (a.queues queue);
  acked = λ (cq : ℕ). (a.completions cq).acked;
  unpolled = λ (cq : ℕ). (a.completions cq).unpolled;
  device = record {
    taken = λ (queue : Queue). (a.queues queue).taken;
    produced = λ (cq : ℕ). (a.completions cq).produced;
    pairs = a.pairs;
    pair_lives = a.pair_lives;
    completions_live = a.completions_live;
    owed = a.owed;
  };
}

-- the same queues, but for this one

abbrev pub with_queue : AllQueues → Queue → WorkQueue → AllQueues
with_queue a queue u = record a { queues = put same_queue a.queues queue u }

abbrev pub with_completions : AllQueues → ℕ → CompletionQueue → AllQueues
with_completions a cq c = record a { completions = put same_number a.completions cq c }

-- what an entry changes in its queue

abbrev pub posted_more : WorkQueue → List Item → WorkQueue
posted_more u items = record u { posted = u.posted ++ items }

abbrev pub retired_to : WorkQueue → ℕ → WorkQueue
retired_to u count = record u { ends = rest_of u.ends; retired = count }

abbrev pub taken_to : WorkQueue → ℕ → WorkQueue
taken_to u number = record u { taken = number }

-- the number of a request whose completion was polled
abbrev pub with_end : WorkQueue → ℕ → WorkQueue
with_end u number = record u { ends = u.ends ++ number ∷ [] }

-- one more completion is written
abbrev pub published_more : CompletionQueue → Unpolled → CompletionQueue
published_more c completion = record c { produced = c.produced + 1; unpolled = c.unpolled ++ completion ∷ [] }

-- a queue of 2^log places in which nothing was posted
abbrev pub fresh_queue : ℕ → ℕ → WorkQueue
fresh_queue log segments = record { room = 2 ^ log; segments = segments; posted = []; taken = 0; retired = 0; ends = [] }

-- where nothing is declared
abbrev pub no_queue : WorkQueue
no_queue = record { room = 0; segments = 0; posted = []; taken = 0; retired = 0; ends = [] }

abbrev pub fresh_completions : CqLine → CompletionQueue
fresh_completions l = record { size = 2 ^ l.log; produced = l.start; acked = l.start; unpolled = [] }

abbrev pub no_completions : CompletionQueue
no_completions = record { size = 0; produced = 0; acked = 0; unpolled = [] }
