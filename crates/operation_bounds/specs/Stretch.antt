-- Stretches of a thread's own operations, by how far its calls have come.
use Rattle.std.specs.Prelude.{ℕ, ◌≡◌, ◌++◌, List, ◌∷◌, length, fold}
use Rattle.bus_core.specs.Mark.{Marked}
use Rattle.verbs_types.specs.declared.call.Call.{Call}
use Rattle.verbs_types.specs.declared.declaration.Lines.{Lines}
use Rattle.object_places.specs.Objects.{Mark}
use Rattle.actor_rules.specs.Thread.{Thread, fresh_thread}
use Rattle.actor_rules.specs.Calls.{after_thread}

-- of these operations some come one after another, right after the first ones
pub record IsStretch {X : Type 0} (ops before during : List X) : Type 0 where
  pub after : List X
  pub whole : ops ≡ before ++ (during ++ after)

-- the thread of a number after these first operations of its own
abbrev pub thread_by : Lines → List (List Call) → ℕ → List (Marked Mark) → Thread
thread_by d programs x ops = fold (after_thread d) (fresh_thread d programs x) ops

-- This call is under way before the stretch, or begins with it, and the stretch does not end it: as many calls are left after it as before it.
pub record IsWithin (d : Lines) (programs : List (List Call)) (x : ℕ) (before during : List (Marked Mark)) (call : Call) : Type 0 where
  pub rest : List Call
  pub begins : (thread_by d programs x before).calls ≡ call ∷ rest
  pub goes_on : length (thread_by d programs x (before ++ during)).calls ≡ length (thread_by d programs x before).calls
