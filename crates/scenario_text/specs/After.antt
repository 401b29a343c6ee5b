-- What a line that breaks no rule adds.
use Rattle.std.specs.Prelude.{ℕ, ◌+◌, List, map, drop, min, Option, None, Some, if◌then◌else◌}
use Rattle.scenario_text.specs.Text.{Field, Line, split, part_at, is_skipped, number_at, read_number}
use Rattle.scenario_text.specs.AfterObjects.{add_eq, add_pd, add_cq, add_qp, add_connect}
use Rattle.scenario_text.specs.AfterCalls.{add_thread, add_end, add_post, add_request, add_recv, add_receive, add_poll, add_drain, close_place}
use Rattle.scenario_text.specs.Keywords.{keyword_in, section_of, next_of, is_of_thread}
use Rattle.scenario_text.specs.Slots.{actor_part, times_part}
use Rattle.scenario_text.specs.Sofar.{Said}
use Rattle.scenario_text.specs.Uses.{named}
use Rattle.scenario_text.specs.Bounds.{bounds_of, passed_after}
use Rattle.scenario_text.specs.declared.keyword.Keyword.{Keyword}
use Rattle.scenario_text.specs.declared.keyword.Keyword.TheVariants.{Eq, Pd, Cq, Qp, Connect, Thread, End, Post, Item, Recv, Receive, Poll, Drain, Schedule, Rounds}
use Rattle.scenario_text.specs.declared.keyword.Section.{Section}
use Rattle.scenario_text.specs.declared.scenario.Plan.TheVariants as plans
use Rattle.scenario_text.specs.declared.scenario.PlanItem.{PlanItem}
use Rattle.scenario_text.specs.declared.slot.Kind.TheVariants as kinds

-- an item's actor by number; one past 255 is one of more threads than there may be
abbrev pub plan_item : Said → Field → PlanItem
plan_item s field = record { actor = min (named s kinds.Actor (actor_part field)) 255; times = read_number (times_part field) }

abbrev pub add_schedule : Line → Said → Said
add_schedule line s = record s { plan = plans.Schedule (map (plan_item s) (drop 1 line)) }

abbrev pub add_rounds : Line → Said → Said
add_rounds line s = record s { plan = plans.Rounds (number_at line 1) }

abbrev pub add_parts : Keyword → Line → Said → Said
add_parts Eq line s = add_eq line s
add_parts Pd line s = add_pd line s
add_parts Cq line s = add_cq line s
add_parts Qp line s = add_qp line s
add_parts Connect line s = add_connect line s
add_parts Thread line s = add_thread line s
add_parts End line s = add_end s
add_parts Post line s = add_post line s
add_parts Item line s = add_request line s
add_parts Recv line s = add_recv line s
add_parts Receive line s = add_receive line s
add_parts Poll line s = add_poll line s
add_parts Drain line s = add_drain line s
add_parts Schedule line s = add_schedule line s
add_parts Rounds line s = add_rounds line s

-- a call, and the end of a thread, end the list before them
abbrev pub close_list : Keyword → Said → Said
close_list keyword s = if is_of_thread keyword then close_place s.place s else s

abbrev pub note_limits : Keyword → Line → Said → Said
note_limits keyword line s = record s { passed = passed_after s.passed (bounds_of s keyword line) }

abbrev pub move_to : Option Section → Said → Said
move_to None s = s
move_to (Some section) s = record s { section = next_of section }

abbrev pub add_line : Keyword → Line → Said → Said
add_line keyword line s = add_parts keyword line (move_to (section_of keyword) (note_limits keyword line (close_list keyword s)))

abbrev pub add_known : Option Keyword → Line → Said → Said
add_known None line s = s
add_known (Some keyword) line s = add_line keyword line s

abbrev pub count_line : Said → Said
count_line s = record s { count = s.count + 1 }

-- what is said with this line too
abbrev pub after_line : Said → List ℕ → Said
after_line s bytes =
    if is_skipped bytes then count_line s
    else add_known (keyword_in s.place (part_at (split 32 bytes) 0)) (split 32 bytes) (count_line s)
