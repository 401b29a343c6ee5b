-- Which rule a line breaks first, after the lines before it.
use Rattle.std.specs.Prelude.{ℕ, ◌==◌, List, [], ◌∷◌, drop, length, Option, None, Some, Bool, true, false, not, ◌||◌, ◌&&◌, nat_lt, is_some, if◌then◌else◌}
use Rattle.std.specs.List.{list_all}
use Rattle.std.specs.Option.{is_none}
use Rattle.scenario_text.specs.Text.{Field, Line, split, part_at, is_text_byte, is_skipped}
use Rattle.scenario_text.specs.Naming.{meaning_of, number_named}
use Rattle.scenario_text.specs.Keywords.{keyword_in, slots_of, more_of, section_of, is_of_thread, is_from}
use Rattle.scenario_text.specs.Slots.{actor_part, is_formed, has_number}
use Rattle.scenario_text.specs.Sofar.{Said}
use Rattle.scenario_text.specs.Uses.{qp_named, cq_named, pair_use, queue_use}
use Rattle.scenario_text.specs.Built.{is_built}
use Rattle.scenario_text.specs.declared.fault.TextRule.{TextRule}
use Rattle.scenario_text.specs.declared.fault.TextRule.TheVariants as rules
use Rattle.scenario_text.specs.declared.keyword.Keyword.{Keyword}
use Rattle.scenario_text.specs.declared.keyword.Keyword.TheVariants as keywords
use Rattle.scenario_text.specs.declared.keyword.Section.{Section}
use Rattle.scenario_text.specs.declared.slot.Kind.TheVariants as kinds
use Rattle.scenario_text.specs.declared.slot.Slot.{Slot}
use Rattle.scenario_text.specs.declared.slot.Slot.TheVariants.{NewName, Name, Pair, Poster, Receiver, Poller, Turns}
use Rattle.scenario_text.specs.declared.sofar.Place.{Place}
use Rattle.scenario_text.specs.declared.sofar.Place.TheVariants.{Outside, InThread, InPost, InRecv}

-- a line outside threads is of no section that is over
abbrev pub may_begin : Section → Option Section → Bool
may_begin earliest None = false
may_begin earliest (Some section) = is_from earliest section

-- the `+` lines of a list
abbrev pub is_item : Keyword → Bool
is_item keywords.Item = true
is_item _ = false

abbrev pub is_receive : Keyword → Bool
is_receive keywords.Receive = true
is_receive _ = false

-- a list has one item at least
abbrev pub may_stand_in : Said → Place → Keyword → Bool
may_stand_in s Outside keyword = may_begin s.section (section_of keyword)
may_stand_in s InThread keyword = is_of_thread keyword
may_stand_in s (InPost qp) keyword = is_item keyword || (is_of_thread keyword && nat_lt 0 (length s.requests))
may_stand_in s (InRecv qp) keyword = is_receive keyword || (is_of_thread keyword && nat_lt 0 (length s.receives))

abbrev pub may_stand : Said → Keyword → Bool
may_stand s keyword = may_stand_in s s.place keyword

-- no `connect` line names the queue pair, if it is one
abbrev pub is_unconnected : Said → Option ℕ → Bool
is_unconnected s None = true
is_unconnected s (Some qp) = not (pair_use s qp).connected

-- a name that was given before, and a queue pair that was connected before, are double
abbrev pub is_new : Said → Slot → Field → Bool
is_new s NewName field = is_none (meaning_of s.names field)
is_new s Pair field = is_unconnected s (number_named s.names kinds.Qp field)
is_new s _ field = true

-- an earlier line gives the name to what is meant
abbrev pub is_known : Said → Slot → Field → Bool
is_known s (Name kind) field = is_some (number_named s.names kind field)
is_known s Pair field = is_some (number_named s.names kinds.Qp field)
is_known s Poster field = is_some (number_named s.names kinds.Qp field)
is_known s Receiver field = is_some (number_named s.names kinds.Qp field)
is_known s Poller field = is_some (number_named s.names kinds.Cq field)
is_known s Turns field = is_some (number_named s.names kinds.Actor (actor_part field))
is_known s _ field = true

-- it is the thread whose lines are read, or nobody
abbrev pub is_this : Said → Option ℕ → Bool
is_this s None = true
is_this s (Some thread) = thread == length s.lines.threads

-- a side of a queue is used by one thread
abbrev pub is_own : Said → Slot → Field → Bool
is_own s Poster field = is_this s (pair_use s (qp_named s field)).poster
is_own s Receiver field = is_this s (pair_use s (qp_named s field)).receiver
is_own s Poller field = is_this s (queue_use s (cq_named s field)).poller
is_own s _ field = true

-- a field keeps a rule in its place
abbrev pub keeps : Said → TextRule → Slot → Field → Bool
keeps s rules.Form slot field = is_formed slot field
keeps s rules.Number slot field = has_number slot field
keeps s rules.Double slot field = is_new s slot field
keeps s rules.Name slot field = is_known s slot field
keeps s rules.Side slot field = is_own s slot field
keeps s _ slot field = true

-- there is a field for each place, and each keeps the rule
abbrev pub all_more : (Slot → Field → Bool) → Option Slot → Line → Bool
all_more ok None [] = true
all_more ok None (f ∷ fs) = false
all_more ok (Some slot) fs = list_all (ok slot) fs

abbrev pub all_keep : (Slot → Field → Bool) → List Slot → Option Slot → Line → Bool
all_keep ok [] more fields = all_more ok more fields
all_keep ok (slot ∷ slots) more [] = false
all_keep ok (slot ∷ slots) more (f ∷ fs) = ok slot f && all_keep ok slots more fs

abbrev pub fits : Said → TextRule → Keyword → Line → Bool
fits s rule keyword line = all_keep (keeps s rule) (slots_of keyword) (more_of keyword) (drop 1 line)

abbrev pub first_broken : Said → Keyword → Line → Option TextRule
first_broken s keyword line =
    if not (may_stand s keyword && fits s rules.Form keyword line) then Some rules.Form
    else if not (fits s rules.Number keyword line) then Some rules.Number
    else if not (fits s rules.Double keyword line) then Some rules.Double
    else if not (fits s rules.Name keyword line) then Some rules.Name
    else if not (fits s rules.Side keyword line) then Some rules.Side
    else None

abbrev pub broken_by : Said → Option Keyword → Line → Option TextRule
broken_by s None line = Some rules.Form
broken_by s (Some keyword) line = first_broken s keyword line

-- the first rule that the line breaks
abbrev pub fault_of : Said → List ℕ → Option TextRule
fault_of s bytes =
    if not (list_all is_text_byte bytes) then Some rules.Byte
    else if is_skipped bytes then None
    else if not (is_built s (split 32 bytes)) then Some rules.NotBuilt
    else broken_by s (keyword_in s.place (part_at (split 32 bytes) 0)) (split 32 bytes)
