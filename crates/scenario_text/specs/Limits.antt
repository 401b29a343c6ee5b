-- Counts of a scenario that have a bound.
use Rattle.std.specs.Prelude.{ℕ, zero, suc, ◌+◌, ◌*◌, ◌==◌, if◌then◌else◌, List, [], ◌∷◌, ◌++◌, length, Option, None, Some, replicate}
use Rattle.std.specs.List.{flat_map, sum_by, range_with_len}
use Rattle.verbs_types.specs.declared.call.Call.{Call}
use Rattle.verbs_types.specs.declared.call.Call.TheVariants.{Post, Recv, Poll, Drain}
use Rattle.verbs_types.specs.declared.declaration.QpLine.{QpLine}
use Rattle.scenario_text.specs.declared.scenario.Plan.{Plan}
use Rattle.scenario_text.specs.declared.scenario.Plan.TheVariants.{Idle, Schedule, Rounds}
use Rattle.scenario_text.specs.declared.scenario.PlanItem.{PlanItem}

abbrev pub count_of : Option ℕ → ℕ
count_of None = 1
count_of (Some n) = n

abbrev pub times_of : PlanItem → ℕ
times_of i = count_of i.times

-- one turn of each of `threads` threads in order, and then one of the adapter
abbrev pub round_of : ℕ → List ℕ
round_of threads = range_with_len 1 threads ++ 0 ∷ []

abbrev pub rounds_of : ℕ → ℕ → List ℕ
rounds_of threads zero = []
rounds_of threads (suc n) = round_of threads ++ rounds_of threads n

-- the actor of each turn, where there are `threads` threads
abbrev pub turns_of : ℕ → Plan → List ℕ
turns_of threads Idle = []
turns_of threads (Schedule items) = flat_map (λ (i : PlanItem). replicate (times_of i) i.actor) items
turns_of threads (Rounds n) = rounds_of threads n

abbrev pub turn_count : ℕ → Plan → ℕ
turn_count threads Idle = 0
turn_count threads (Schedule items) = sum_by times_of items
turn_count threads (Rounds n) = n * (threads + 1)

-- the requests of a call on this queue pair
abbrev pub posted_by : ℕ → Call → ℕ
posted_by q (Post qp requests) = if qp == q then length requests else 0
posted_by q (Recv qp receives) = 0
posted_by q (Poll cq most) = 0
posted_by q (Drain cq count) = 0

abbrev pub posted_on : ℕ → List (List Call) → ℕ
posted_on q programs = sum_by (λ (calls : List Call). sum_by (posted_by q) calls) programs

-- the receives of a call on this queue pair
abbrev pub received_by : ℕ → Call → ℕ
received_by q (Post qp requests) = 0
received_by q (Recv qp receives) = if qp == q then length receives else 0
received_by q (Poll cq most) = 0
received_by q (Drain cq count) = 0

abbrev pub received_on : ℕ → List (List Call) → ℕ
received_on q programs = sum_by (λ (calls : List Call). sum_by (received_by q) calls) programs

-- the counts of those of these queue pairs, numbered from q on, of which a queue is that of completions c
abbrev pub counted_into : (QpLine → ℕ) → (ℕ → ℕ) → ℕ → ℕ → List QpLine → ℕ
counted_into queue count c q [] = 0
counted_into queue count c q (l ∷ ls) = (if queue l == c then count q else 0) + counted_into queue count c (q + 1) ls

-- the requests and receives on these queue pairs that complete into c
abbrev pub completing_into : ℕ → ℕ → List QpLine → List (List Call) → ℕ
completing_into c q ls programs =
    counted_into (λ (l : QpLine). l.send_cq) (λ k. posted_on k programs) c q ls + counted_into (λ (l : QpLine). l.recv_cq) (λ k. received_on k programs) c q ls
