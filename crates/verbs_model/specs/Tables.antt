-- The state of verbs queues as lists, in the order of the objects' numbers.
use Rattle.std.specs.Prelude.{ℕ, ◌+◌, ◌-◌, ◌*◌, Bool, if◌then◌else◌, List, length, Option, slice_index_or}
use Rattle.std.specs.Option.{option_to_list}
use Rattle.verbs_types.specs.declared.completion.Queue.{Queue}
use Rattle.verbs_types.specs.declared.completion.Queue.TheVariants.{Send, Recv, Shared}
use Rattle.verbs_types.specs.declared.declaration.TheConstants.{FIRST_QP}
use Rattle.verbs_types.specs.declared.state.Act.{Act}
use Rattle.verbs_types.specs.declared.state.QueuePair.{QueuePair}
use Rattle.verbs_types.specs.Lines.{is_among}
use Rattle.verbs_rules.specs.OfOne.{WorkQueue, CompletionQueue}
use Rattle.verbs_rules.specs.Start.{no_pair}
use Rattle.verbs_rules.specs.State.{Verbs}
use Rattle.verbs_model.specs.Queues.{AllQueues, parts_of, no_queue, no_completions}

pub record Tables : Type 0 where
  -- the send queue of the queue pair at place i stands at 2i, its receive queue at 2i + 1
  pub queues : List WorkQueue
  pub pairs : List QueuePair
  pub completions : List CompletionQueue
  pub owed : Option Act

abbrev pub place_of : Queue → ℕ
place_of (Send qp) = 2 * (qp - FIRST_QP)
place_of (Recv qp) = 2 * (qp - FIRST_QP) + 1
place_of (Shared srq) = 0

abbrev pub pair_is_in : Tables → ℕ → Bool
pair_is_in t = is_among FIRST_QP (length t.pairs)

abbrev pub completions_are_in : Tables → ℕ → Bool
completions_are_in t = is_among 0 (length t.completions)

abbrev pub queue_at : Tables → Queue → WorkQueue
queue_at t (Send qp) = if pair_is_in t qp then slice_index_or t.queues (place_of (Send qp)) no_queue else no_queue
queue_at t (Recv qp) = if pair_is_in t qp then slice_index_or t.queues (place_of (Recv qp)) no_queue else no_queue
queue_at t (Shared srq) = no_queue

abbrev pub pair_at : Tables → ℕ → QueuePair
pair_at t qp = if pair_is_in t qp then slice_index_or t.pairs (qp - FIRST_QP) no_pair else no_pair

abbrev pub completions_at : Tables → ℕ → CompletionQueue
completions_at t cq = if completions_are_in t cq then slice_index_or t.completions cq no_completions else no_completions

abbrev pub all_of : Tables → AllQueues
all_of t = record {
  queues = queue_at t;
  completions = completions_at t;
  pairs = pair_at t;
  pair_lives = pair_is_in t;
  completions_live = completions_are_in t;
  owed = option_to_list t.owed;
}

abbrev pub state_of : Tables → Verbs
state_of t = parts_of (all_of t)
