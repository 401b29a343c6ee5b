-- How the fields of the abstract state are seen.
use Rattle.std.specs.Prelude.{◌≡◌, ◌*◌, length, map}
use Rattle.verbs_model.specs.declared.abstract_state.Abstract.TheInside.{Inside}
use Rattle.verbs_model.specs.Held.{Held}
use Rattle.verbs_model.specs.Tables.{Tables}

abbrev pub tables : Inside → Tables
tables a = record { queues = map (λ (h : Held). h.queue) a.queues.items; pairs = a.pairs.items; completions = a.completions.items; owed = a.owed }

-- each queue pair has its send and its receive queue
abbrev pub HasBothQueues : Inside → Type 0
HasBothQueues a = length a.queues.items ≡ 2 * length a.pairs.items
