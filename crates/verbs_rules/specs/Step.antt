-- The step of verbs queues: for an entry the first rule that fails, or else the state after it.
use Rattle.std.specs.Prelude.{◌≡◌, List, [], ◌∷◌, Option, None}
use Rattle.verbs_types.specs.declared.entry.Entry.{Entry}
use Rattle.verbs_types.specs.declared.entry.What.{What}
use Rattle.verbs_types.specs.declared.entry.What.TheVariants.{Post, PostFull, Poll, Retire, Ack, Fetch, Publish}
use Rattle.verbs_types.specs.declared.entry.RuleName.{RuleName}
use Rattle.verbs_types.specs.declared.entry.RuleName.TheVariants.{Actor, Object}
use Rattle.verbs_rules.specs.State.{Verbs}
use Rattle.verbs_rules.specs.OfOne.{queue_in, completions_in}
use Rattle.verbs_rules.specs.Rules.{Test, first_failing, is_by, objects_live}
use Rattle.verbs_rules.specs.Rows.{post_needs, post, full_needs, poll_needs, poll, retire_needs, retire, ack_needs, ack, fetch_needs, fetch, publish_needs, publish}

-- what an entry needs beside its actor and living objects; an entry that is not built has no living objects
abbrev pub needs : Verbs → What → List Test
needs v (Post queue items) = post_needs queue (queue_in v queue) items
needs v (PostFull queue pending head tail) = full_needs (queue_in v queue) pending head tail
needs v (Poll cq most completions) = poll_needs (completions_in v cq) most completions
needs v (Retire queue count) = retire_needs (queue_in v queue) count
needs v (Ack cq index) = ack_needs (completions_in v cq) index
needs v (Fetch queue number) = fetch_needs v queue number
needs v (Publish cq completion) = publish_needs v cq completion
needs v _ = []

-- the first rule that fails, if any
abbrev pub first_fault : Verbs → Entry → Option RuleName
first_fault v e = first_failing (record { rule = Actor; holds = is_by e.actor e.what } ∷ record { rule = Object; holds = objects_live v e.what } ∷ needs v e.what)

-- what the entry makes
abbrev pub after : Verbs → What → Verbs
after v (Post queue items) = post v queue items
after v (PostFull queue pending head tail) = v
after v (Poll cq most completions) = poll v cq completions
after v (Retire queue count) = retire v queue count
after v (Ack cq index) = ack v cq index
after v (Fetch queue number) = fetch v queue number
after v (Publish cq completion) = publish v cq v.device.owed
after v _ = v

-- no rule fails
abbrev pub MayStep : Verbs → Entry → Type 0
MayStep v e = first_fault v e ≡ None

abbrev pub after_entry : Verbs → Entry → Verbs
after_entry v e = after v e.what
