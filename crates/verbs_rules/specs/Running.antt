-- The queues, and what each thread still owes of its calls.
use Rattle.std.specs.Prelude.{ℕ, ◌==◌, List}
use Rattle.verbs_types.specs.declared.entry.Entry.{Entry}
use Rattle.verbs_rules.specs.Family.{put, same_number}
use Rattle.verbs_rules.specs.State.{Verbs}
use Rattle.verbs_rules.specs.Step.{after}
use Rattle.verbs_rules.specs.Answered.{Due, after_answer}

pub record Running : Type 0 where
  pub verbs : Verbs
  pub owed : ℕ → List Due

abbrev pub after_turn : Running → Entry → Running
after_turn r e = record { verbs = after r.verbs e.what; owed = put same_number r.owed e.actor (after_answer (r.owed e.actor) e.what) }
