-- The first words of lines: what stands after each, and in which part of a scenario it stands.
use Rattle.std.specs.Prelude.{ℕ, List, [], ◌∷◌, codes, Option, None, Some, Bool, true, false, nat_le, if◌then◌else◌, bytes_eq}
use Rattle.std.specs.List.{list_any}
use Rattle.scenario_text.specs.Text.{Field}
use Rattle.scenario_text.specs.declared.keyword.Keyword.{Keyword}
use Rattle.scenario_text.specs.declared.keyword.Keyword.TheVariants.{Eq, Pd, Cq, Qp, Connect, Thread, End, Post, Item, Recv, Receive, Poll, Drain, Schedule, Rounds}
use Rattle.scenario_text.specs.declared.keyword.Section.{Section}
use Rattle.scenario_text.specs.declared.keyword.Section.TheVariants as sections
use Rattle.scenario_text.specs.declared.slot.Kind.TheVariants as kinds
use Rattle.scenario_text.specs.declared.slot.Slot.{Slot}
use Rattle.scenario_text.specs.declared.slot.Slot.TheVariants.{NewName, Name, Pair, Poster, Receiver, Poller, Number, RecvLog, Operation, Flags, Segment, Turns}
use Rattle.scenario_text.specs.declared.sofar.Place.{Place}
use Rattle.scenario_text.specs.declared.sofar.Place.TheVariants.{InRecv}

abbrev pub keyword_of : Field → Option Keyword
keyword_of field =
    if bytes_eq field (codes "eq") then Some Eq
    else if bytes_eq field (codes "pd") then Some Pd
    else if bytes_eq field (codes "cq") then Some Cq
    else if bytes_eq field (codes "qp") then Some Qp
    else if bytes_eq field (codes "connect") then Some Connect
    else if bytes_eq field (codes "thread") then Some Thread
    else if bytes_eq field (codes "end") then Some End
    else if bytes_eq field (codes "post") then Some Post
    else if bytes_eq field (codes "+") then Some Item
    else if bytes_eq field (codes "recv") then Some Recv
    else if bytes_eq field (codes "poll") then Some Poll
    else if bytes_eq field (codes "drain") then Some Drain
    else if bytes_eq field (codes "schedule") then Some Schedule
    else if bytes_eq field (codes "rounds") then Some Rounds
    else None

-- a `+` begins a receive after `recv`
abbrev pub in_place : Place → Option Keyword → Option Keyword
in_place (InRecv qp) (Some Item) = Some Receive
in_place _ keyword = keyword

-- what a word begins where the next line stands
abbrev pub keyword_in : Place → Field → Option Keyword
keyword_in place field = in_place place (keyword_of field)

-- the words of lines, and the operations of requests, that are not built yet
abbrev pub later_words : List Field
later_words =
    codes "arena" ∷ codes "mr" ∷ codes "srq" ∷ codes "srqpost" ∷ codes "arm" ∷ codes "event" ∷ codes "await" ∷ codes "write" ∷ codes "read"
    ∷ codes "reg" ∷ codes "dereg" ∷ codes "resize" ∷ codes "error" ∷ codes "destroy" ∷ codes "close" ∷ []

abbrev pub later_operations : List Field
later_operations = codes "send" ∷ codes "sendimm" ∷ codes "write" ∷ codes "writeimm" ∷ codes "read" ∷ codes "cas" ∷ codes "faa" ∷ []

abbrev pub is_later_word : Field → Bool
is_later_word field = list_any (bytes_eq field) later_words

abbrev pub is_later_operation : Field → Bool
is_later_operation field = list_any (bytes_eq field) later_operations

-- the line of each word, place by place
abbrev pub slots_of : Keyword → List Slot
slots_of Eq = NewName ∷ Number ∷ []
slots_of Pd = NewName ∷ []
slots_of Cq = NewName ∷ Number ∷ Number ∷ Name kinds.Eq ∷ Number ∷ []
slots_of Qp = NewName ∷ Name kinds.Pd ∷ Name kinds.Cq ∷ Name kinds.Cq ∷ Number ∷ RecvLog ∷ Number ∷ Number ∷ []
slots_of Connect = Pair ∷ Pair ∷ []
slots_of Thread = NewName ∷ []
slots_of End = []
slots_of Post = Poster ∷ []
slots_of Item = Number ∷ Operation ∷ Flags ∷ []
slots_of Recv = Receiver ∷ []
slots_of Receive = Number ∷ []
slots_of Poll = Poller ∷ Number ∷ []
slots_of Drain = Poller ∷ Number ∷ []
slots_of Schedule = Turns ∷ []
slots_of Rounds = Number ∷ []

-- what may follow, any number of times
abbrev pub more_of : Keyword → Option Slot
more_of Receive = Some Segment
more_of Schedule = Some Turns
more_of _ = None

-- lines outside a thread
abbrev pub section_of : Keyword → Option Section
section_of Eq = Some sections.Objects
section_of Pd = Some sections.Objects
section_of Cq = Some sections.Objects
section_of Qp = Some sections.Objects
section_of Connect = Some sections.Connects
section_of Thread = Some sections.Threads
section_of Schedule = Some sections.Plan
section_of Rounds = Some sections.Plan
section_of _ = None

-- the calls of a thread, and its end
abbrev pub is_of_thread : Keyword → Bool
is_of_thread End = true
is_of_thread Post = true
is_of_thread Recv = true
is_of_thread Poll = true
is_of_thread Drain = true
is_of_thread _ = false

abbrev pub place_of : Section → ℕ
place_of sections.Objects = 0
place_of sections.Connects = 1
place_of sections.Threads = 2
place_of sections.Plan = 3
place_of sections.Over = 4

abbrev pub is_from : Section → Section → Bool
is_from earliest section = nat_le (place_of earliest) (place_of section)

-- there is one plan at most
abbrev pub next_of : Section → Section
next_of sections.Plan = sections.Over
next_of section = section
