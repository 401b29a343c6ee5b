-- Which scenarios can run.
use Rattle.std.specs.Prelude.{ℕ, ◌≡◌, ◌+◌, ◌*◌, ◌^◌, ◌≤◌, IsTrue, List, [], length, All}
use Rattle.verbs_types.specs.Lines.{is_declared}
use Rattle.verbs_types.specs.declared.declaration.CqLine.{CqLine}
use Rattle.verbs_types.specs.declared.declaration.QpLine.{QpLine}
use Rattle.verbs_types.specs.declared.declaration.Lines.{Lines}
use Rattle.actor_map.specs.Sizes.{words_of}
use Rattle.actor_map.specs.Weight.{weight}
use Rattle.scenario_text.specs.declared.scenario.Plan.{Plan}
use Rattle.scenario_text.specs.declared.scenario.Plan.TheVariants.{Idle, Schedule, Rounds}
use Rattle.scenario_text.specs.declared.scenario.PlanItem.{PlanItem}
use Rattle.scenario_text.specs.declared.scenario.ScenarioParts.{ScenarioParts}
use Rattle.scenario_text.specs.Calls.{IsProgram, IsOfOneThread, HasRoom, posts_on, receives_on, polls_on}
use Rattle.scenario_text.specs.Limits.{turn_count}

-- the items of a plan
abbrev pub items_of_plan : Plan → List PlanItem
items_of_plan Idle = []
items_of_plan (Schedule items) = items
items_of_plan (Rounds n) = []

-- the adapter or one of `threads` threads
abbrev pub IsActorOf : ℕ → PlanItem → Type 0
IsActorOf threads i = i.actor ≤ threads

-- its turns are of actors that there are, and at most 1,048,576
abbrev pub IsPlan : Lines → Plan → Type 0
IsPlan d plan = All (IsActorOf (length d.threads)) (items_of_plan plan) × (turn_count (length d.threads) plan ≤ 1048576)

-- the address map of its objects has at most 2^20 words, and its weight is at most 4,194,304
pub record IsLight (s : ScenarioParts) : Type 0 where
  pub words : words_of s.lines ≤ 2 ^ 20
  pub weight : weight s.lines s.programs ≤ 4194304

-- no index or count that begins here goes past this one, where each unit of weight raises it by 64 at most
abbrev pub end_of_counts : ScenarioParts → ℕ → ℕ
end_of_counts s start = start + 64 * weight s.lines s.programs

-- the indices of completion queues and the counts of queue pairs stay low, wherever they begin
pub record StaysLow (s : ScenarioParts) : Type 0 where
  pub indices : All (λ (l : CqLine). end_of_counts s l.start ≤ 2 ^ 33) s.lines.cqs
  pub counts : All (λ (l : QpLine). end_of_counts s l.start ≤ 2 ^ 33) s.lines.qps

-- declared objects whose map and counts are within bounds, at most 16 threads that call on them, one side of each
-- queue in one thread, and room for every completion
pub record CanRun (s : ScenarioParts) : Type 0 where
  pub declared : IsTrue (is_declared s.lines)
  pub threads : length s.lines.threads ≤ 16
  pub paired : length s.programs ≡ length s.lines.threads
  pub programs : All (IsProgram s.lines) s.programs
  pub poster : (q : ℕ) → IsOfOneThread (posts_on q) s.programs
  pub receiver : (q : ℕ) → IsOfOneThread (receives_on q) s.programs
  pub poller : (c : ℕ) → IsOfOneThread (polls_on c) s.programs
  pub room : HasRoom s.lines s.programs
  pub plan : IsPlan s.lines s.plan
  pub light : IsLight s
  pub low : StaysLow s
