-- How the fields of a completion queue are seen.
use Rattle.std.specs.Prelude.{◌+◌, ◌≤◌, length, drop}
use Rattle.verbs_model.specs.declared.completion_queue.CompletionQueue.TheInside.{Inside}
use Rattle.verbs_rules.specs.OfOne.{CompletionQueue}

abbrev pub seen : Inside → CompletionQueue
seen q = record { size = q.size; produced = q.start + length q.published.items; acked = q.start + q.acked; unpolled = drop q.polled q.published.items }

-- polled completions were written before, and acknowledged ones were polled
pub record IsCounted (q : Inside) : Type 0 where
  pub polled : q.polled ≤ length q.published.items
  pub acked : q.acked ≤ q.polled
