-- What a scenario that can run gives to the law of all actors and to each of its threads.
use Rattle.std.specs.Prelude.{ℕ, suc, ◌<◌, ◌≤◌, ◌^◌, List, length}
use Rattle.verbs_types.specs.declared.call.Call.{Call}
use Rattle.verbs_types.specs.declared.declaration.Lines.{Lines}
use Rattle.verbs_rules.specs.Within.{Bounds}
use Rattle.actor_map.specs.Sizes.{words_of}
use Rattle.scenario_text.specs.Limits.{posted_on}
use Rattle.scenario_text.specs.declared.scenario.ScenarioParts.{ScenarioParts}
use Rattle.object_places.specs.Places.{cq_line}
use Rattle.actor_rules.specs.Ready.{AreReady}
use Rattle.actor_rules.specs.Thread.{program_of}
use Rattle.thread_actor.specs.Fresh.{CanRun}

-- a queue pair has at most the requests that all calls post on it, and a completion queue begins with its line's index
abbrev pub bounds_of : Lines → List (List Call) → Bounds
bounds_of d programs = record { posts = λ qp. posted_on qp programs; first = λ cq. (cq_line d cq).start }

-- What the law of all actors asks of objects and programs, that each thread can run, and that the map has at most 2^20 words.
pub record IsReady (s : ScenarioParts) : Type 0 where
  pub law : AreReady s.lines s.programs (bounds_of s.lines s.programs)
  pub threads : (t : ℕ) → t < length s.programs → CanRun s.lines (suc t) (program_of s.programs (suc t))
  pub words : words_of s.lines ≤ 2 ^ 20
