-- The limits of lines and of whole texts.
use Rattle.std.specs.Prelude.{ℕ, ◌+◌, ◌*◌, ◌-◌, ◌^◌, ◌==◌, List, [], ◌∷◌, ◌++◌, length, min, Option, None, Some, Bool, ◌&&◌, nat_le, if◌then◌else◌}
use Rattle.std.specs.List.{fold, count_by}
use Rattle.std.specs.Option.{unwrap_or}
use Rattle.verbs_types.specs.declared.declaration.CqLine.{CqLine}
use Rattle.verbs_types.specs.declared.declaration.EqLine.{EqLine}
use Rattle.verbs_types.specs.declared.declaration.Lines.{Lines}
use Rattle.actor_map.specs.Sizes.{words_of}
use Rattle.actor_map.specs.Weight.{weight, capped}
use Rattle.scenario_text.specs.Text.{Line, number_at, part_at, read_number}
use Rattle.scenario_text.specs.Segments.{segment_fields, length_in}
use Rattle.scenario_text.specs.Slots.{after_rq}
use Rattle.scenario_text.specs.Sofar.{Said}
use Rattle.scenario_text.specs.Uses.{segments_here}
use Rattle.scenario_text.specs.Limits.{turn_count}
use Rattle.scenario_text.specs.declared.bounds.Bound.{Bound}
use Rattle.scenario_text.specs.declared.fault.LimitName.{LimitName}
use Rattle.scenario_text.specs.declared.fault.LimitName.TheVariants as limits
use Rattle.scenario_text.specs.declared.keyword.Keyword.{Keyword}
use Rattle.scenario_text.specs.declared.keyword.Keyword.TheVariants.{Eq, Pd, Cq, Qp, Thread, Post, Item, Recv, Receive, Poll, Drain}
use Rattle.scenario_text.specs.declared.scenario.Plan.{Plan}
use Rattle.scenario_text.specs.declared.scenario.ScenarioParts.{ScenarioParts}
use Rattle.scenario_text.specs.declared.sofar.Passed.{Passed}

-- a quantity with this value may be from the least to the most
abbrev pub bound : LimitName → ℕ → ℕ → ℕ → Bound
bound name value least most = record { name = name; value = value; least = least; most = most }

abbrev pub is_kept : Bound → Bool
is_kept b = nat_le b.least b.value && nat_le b.value b.most

-- the limit, if it is passed
abbrev pub passed_alone : Bound → Option Passed
passed_alone b = if is_kept b then None else Some (record { name = b.name; value = b.value })

-- the first limit that is passed stays
abbrev pub passed_by : Option Passed → Bound → Option Passed
passed_by (Some p) b = Some p
passed_by None b = passed_alone b

abbrev pub passed_after : Option Passed → List Bound → Option Passed
passed_after p bounds = fold passed_by p bounds

-- the log after `rq:`
abbrev pub recv_log_at : Line → ℕ
recv_log_at line = unwrap_or (read_number (after_rq (part_at line 6))) 0

abbrev pub calls_bound : Said → Bound
calls_bound s = bound limits.Calls (length s.calls + 1) 0 65536

-- the bytes of a segment and of those before it; past 2^64 - 1 there are 2^64 - 1
abbrev pub together : ℕ → ℕ → ℕ
together length before = min (length + before) (2 ^ 64 - 1)

-- the limits of a segment, of which there may be `most`: its place, its length, and the length up to it
abbrev pub one_segment : ℕ → ℕ → ℕ → ℕ → List Bound
one_segment most place length total = bound limits.Sges place 0 most ∷ bound limits.Length length 0 65536 ∷ bound limits.Length total 0 65536 ∷ []

-- those of segments from this place on, with `before` bytes before
abbrev pub segment_bounds : ℕ → ℕ → ℕ → Line → List Bound
segment_bounds most place before [] = []
segment_bounds most place before (f ∷ fs) =
    one_segment most place (length_in f) (together (length_in f) before) ++ segment_bounds most (place + 1) (together (length_in f) before) fs

-- the limits of a line, from left to right; one that counts comes first, with the count at this line
abbrev pub bounds_of : Said → Keyword → Line → List Bound
bounds_of s Eq line = bound limits.Objects (length s.lines.eqs + 1) 0 8 ∷ bound limits.Log (number_at line 2) 1 10 ∷ []
bounds_of s Pd line = bound limits.Objects (length s.lines.pds + 1) 0 64 ∷ []
bounds_of s Cq line =
    bound limits.Objects (length s.lines.cqs + 1) 0 32
    ∷ bound limits.Log (number_at line 2) 1 (min (number_at line 3) 12)
    ∷ bound limits.Log (number_at line 3) 1 12
    ∷ bound limits.Start (number_at line 5) 0 (2 ^ 32)
    ∷ []
bounds_of s Qp line =
    bound limits.Objects (length s.lines.qps + 1) 0 64
    ∷ bound limits.Log (number_at line 5) 0 8
    ∷ bound limits.Log (recv_log_at line) 0 8
    ∷ bound limits.Sges (number_at line 7) 1 8
    ∷ bound limits.Start (number_at line 8) 0 (2 ^ 32)
    ∷ []
bounds_of s Thread line = bound limits.Threads (length s.lines.threads + 1) 0 16 ∷ []
bounds_of s Post line = calls_bound s ∷ []
bounds_of s Item line = bound limits.List (length s.requests + 1) 0 16 ∷ []
bounds_of s Recv line = calls_bound s ∷ []
bounds_of s Receive line = bound limits.List (length s.receives + 1) 0 16 ∷ segment_bounds (segments_here s) 1 0 (segment_fields line)
bounds_of s Poll line = calls_bound s ∷ bound limits.Poll (number_at line 2) 1 16 ∷ []
bounds_of s Drain line = calls_bound s ∷ bound limits.Drain (number_at line 2) 1 65536 ∷ []
bounds_of s _ line = []

-- the size of a queue; it makes no difference past 2^63
abbrev pub size_of : ℕ → ℕ
size_of log = 2 ^ min log 63

-- an event queue holds two events of each of its completion queues
abbrev pub events_on : Lines → ℕ → ℕ
events_on d eq = 2 * count_by (λ (l : CqLine). l.eq == eq) d.cqs

abbrev pub event_bounds : Lines → ℕ → List EqLine → List Bound
event_bounds d n [] = []
event_bounds d n (l ∷ ls) = bound limits.Events (events_on d n) 0 (size_of l.log) ∷ event_bounds d (n + 1) ls

-- turns past 2^64 - 1 count as 2^64 - 1
abbrev pub turns_bound : Lines → Plan → Bound
turns_bound d plan = bound limits.Turns (min (turn_count (length d.threads) plan) (2 ^ 64 - 1)) 0 1048576

-- the first limit that the lines pass, one by one and together
abbrev pub passed_in_lines : Said → Option Passed
passed_in_lines s = passed_by (passed_after s.passed (event_bounds s.lines 0 s.lines.eqs)) (turns_bound s.lines s.plan)

-- the words of the address map, and the weight, which bounds how long a run may become
abbrev pub run_bounds : ScenarioParts → List Bound
run_bounds s = bound limits.Words (words_of s.lines) 0 1048576 ∷ bound limits.Notes (capped (weight s.lines s.programs)) 0 4194304 ∷ []

-- the first limit that the run of a scenario passes
abbrev pub passed_in_run : ScenarioParts → Option Passed
passed_in_run s = passed_after None (run_bounds s)
