-- How far a thread has come in its calls.
use Rattle.std.specs.Prelude.{ℕ, ◌+◌, ◌==◌, nat_lt, Bool, if◌then◌else◌, Option, None, Some}
use Rattle.thread_actor.specs.declared.progress.Progress.{Progress}

abbrev pub next_after : Progress → Progress
next_after p = record { finished = p.finished + 1; taken = 0 }

abbrev pub after_post : Progress → Bool → Progress
after_post p is_over = if is_over then next_after p else p

-- a poll is over where it tells how many it took
abbrev pub after_poll : Progress → Option ℕ → Progress
after_poll p None = p
after_poll p (Some taken) = next_after p

abbrev pub after_one : Progress → ℕ → Progress
after_one p count = if nat_lt (p.taken + 1) count then record { finished = p.finished; taken = p.taken + 1 } else next_after p

-- a drain of `count` looks again where there was no completion
abbrev pub after_drain : Progress → ℕ → Option ℕ → Progress
after_drain p count None = p
after_drain p count (Some taken) = if taken == 0 then p else after_one p count
