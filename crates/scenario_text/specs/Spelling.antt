-- The text of a scenario.
use Rattle.std.specs.Prelude.{ℕ, zero, suc, List, [], ◌∷◌, ◌++◌, map, codes, decimal, Option, None, Some}
use Rattle.std.specs.List.{flat_map}
use Rattle.verbs_types.specs.declared.call.Call.{Call}
use Rattle.verbs_types.specs.declared.call.Call.TheVariants.{Post, Recv, Poll, Drain}
use Rattle.verbs_types.specs.declared.declaration.Lines.{Lines}
use Rattle.scenario_text.specs.declared.scenario.Plan.{Plan}
use Rattle.scenario_text.specs.declared.scenario.Plan.TheVariants.{Idle, Schedule, Rounds}
use Rattle.scenario_text.specs.declared.scenario.PlanItem.{PlanItem}
use Rattle.scenario_text.specs.declared.scenario.ScenarioParts.{ScenarioParts}
use Rattle.scenario_text.specs.Requests.{line, request_fields, receive_fields}
use Rattle.scenario_text.specs.Heads.{text_at, cq_name, qp_name, head_text}

-- the lines of a call, field by field
abbrev pub call_lines : Lines → Call → List (List (List ℕ))
call_lines d (Post qp requests) = (codes "post" ∷ qp_name d qp ∷ []) ∷ map request_fields requests
call_lines d (Recv qp receives) = (codes "recv" ∷ qp_name d qp ∷ []) ∷ map receive_fields receives
call_lines d (Poll cq most) = (codes "poll" ∷ cq_name d cq ∷ decimal most ∷ []) ∷ []
call_lines d (Drain cq count) = (codes "drain" ∷ cq_name d cq ∷ decimal count ∷ []) ∷ []

abbrev pub thread_line : List ℕ → List (List ℕ)
thread_line name = codes "thread" ∷ name ∷ []

abbrev pub end_line : List (List ℕ)
end_line = codes "end" ∷ []

-- the calls of a thread, and its end
abbrev pub program_lines : Lines → List Call → List (List (List ℕ))
program_lines d calls = flat_map (call_lines d) calls ++ end_line ∷ []

abbrev pub thread_lines : Lines → List ℕ → List Call → List (List (List ℕ))
thread_lines d name calls = thread_line name ∷ program_lines d calls

-- each thread's name with its calls
abbrev pub threads_lines : Lines → List (List ℕ) → List (List Call) → List (List (List ℕ))
threads_lines d (name ∷ names) (calls ∷ programs) = thread_lines d name calls ++ threads_lines d names programs
threads_lines d _ _ = []

-- `dev`, or the name of a thread
abbrev pub actor_name : Lines → ℕ → List ℕ
actor_name d zero = codes "dev"
actor_name d (suc t) = text_at (λ (name : List ℕ). name) d.threads t

abbrev pub times_text : Option ℕ → List ℕ
times_text None = []
times_text (Some n) = 42 ∷ decimal n

abbrev pub item_text : Lines → PlanItem → List ℕ
item_text d i = actor_name d i.actor ++ times_text i.times

abbrev pub plan_lines : Lines → Plan → List (List (List ℕ))
plan_lines d Idle = []
plan_lines d (Schedule items) = (codes "schedule" ∷ map (item_text d) items) ∷ []
plan_lines d (Rounds n) = (codes "rounds" ∷ decimal n ∷ []) ∷ []

abbrev pub scenario_text : ScenarioParts → List ℕ
scenario_text s = head_text s.lines ++ flat_map line (threads_lines s.lines s.lines.threads s.programs) ++ flat_map line (plan_lines s.lines s.plan)
