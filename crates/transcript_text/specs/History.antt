-- The text of a history.
use Rattle.std.specs.Prelude.{ℕ, ◌==◌, Bool, true, false, if◌then◌else◌, List, [], ◌∷◌, ◌++◌, map, length, codes, decimal, Option, None, Some}
use Rattle.std.specs.List.{flat_map, join_with_byte}
use Rattle.verbs_types.specs.declared.completion.Queue.{Queue}
use Rattle.verbs_types.specs.declared.completion.Queue.TheVariants.{Send, Recv, Shared}
use Rattle.verbs_types.specs.declared.completion.Kind.{Kind}
use Rattle.verbs_types.specs.declared.completion.Kind.TheVariants as kind
use Rattle.verbs_types.specs.declared.completion.Completion.{Completion}
use Rattle.verbs_types.specs.declared.completion.ArmKind.{ArmKind}
use Rattle.verbs_types.specs.declared.completion.ArmKind.TheVariants.{Any, Solicited}
use Rattle.verbs_types.specs.declared.completion.EventRecord.{EventRecord}
use Rattle.verbs_types.specs.declared.completion.EventRecord.TheVariants.{Completion as OfCompletion, CqError}
use Rattle.verbs_types.specs.declared.declaration.Lines.{Lines}
use Rattle.verbs_types.specs.declared.entry.Entry.{Entry}
use Rattle.verbs_types.specs.declared.entry.What.{What}
use Rattle.verbs_types.specs.declared.entry.What.TheVariants.{Post, PostFull, Poll, Retire, Free, Ack, Arm, TakeEvent, Submit, Reply, ReadByte, WriteByte, Clean, Fetch, TakeReceive, GetByte, PutByte, Publish, SeeArm, Event, Overrun, Lost, Execute}
use Rattle.verbs_types.specs.declared.entry.TheConstants.{CONTROL}
use Rattle.scenario_text.specs.Requests.{line, hex, item_fields}
use Rattle.scenario_text.specs.Heads.{eq_name, cq_name, qp_name, head_text}
use Rattle.scenario_text.specs.Spelling as scenario
use Rattle.transcript_text.specs.Commands.{command_fields, answer_fields}

-- `ctl`, or the name of an actor of a scenario
abbrev pub actor_name : Lines → ℕ → List ℕ
actor_name d n = if n == CONTROL then codes "ctl" else scenario.actor_name d n

-- no shared receive queue can be declared yet: its text will be its name
abbrev pub srq_name : Lines → ℕ → List ℕ
srq_name d srq = []

-- a send or receive queue of a queue pair, or a shared receive queue, which will be `SRQ@QP` in a completion
abbrev pub queue_name : Lines → Queue → List ℕ
queue_name d (Send qp) = qp_name d qp ++ codes ".s"
queue_name d (Recv qp) = qp_name d qp ++ codes ".r"
queue_name d (Shared srq) = srq_name d srq

abbrev pub kind_name : Kind → List ℕ
kind_name kind.Nop = codes "nop"
kind_name kind.Send = codes "send"
kind_name kind.Write = codes "write"
kind_name kind.Read = codes "read"
kind_name kind.Cas = codes "cas"
kind_name kind.Faa = codes "faa"
kind_name kind.Recv = codes "recv"
kind_name kind.RecvImm = codes "recvimm"
kind_name kind.RecvWrite = codes "recvwrite"
kind_name kind.Failed = codes "failed"

-- a number, or a dash for none
abbrev pub immediate_text : Option ℕ → List ℕ
immediate_text None = codes "-"
immediate_text (Some n) = decimal n

abbrev pub solicited_text : Bool → List ℕ
solicited_text true = codes "s"
solicited_text false = codes "-"

-- the parts of a completion, with colons between them
abbrev pub completion_text : Lines → Completion → List ℕ
completion_text d c =
    join_with_byte 58
    (queue_name d c.queue ∷ decimal c.id ∷ decimal c.status ∷ kind_name c.kind ∷ decimal c.len ∷ immediate_text c.imm ∷ solicited_text c.solicited ∷ [])

-- completions, the oldest first, or the word for none
abbrev pub completion_fields : Lines → List Completion → List (List ℕ)
completion_fields d [] = codes "empty" ∷ []
completion_fields d (c ∷ cs) = map (completion_text d) (c ∷ cs)

abbrev pub arm_kind_name : ArmKind → List ℕ
arm_kind_name Any = codes "any"
arm_kind_name Solicited = codes "solicited"

abbrev pub event_fields : Lines → EventRecord → List (List ℕ)
event_fields d (OfCompletion cq) = codes "cq" ∷ cq_name d cq ∷ []
event_fields d (CqError cq) = codes "error" ∷ cq_name d cq ∷ []

-- an event, or the word for none
abbrev pub taken_event_fields : Lines → Option EventRecord → List (List ℕ)
taken_event_fields d None = codes "none" ∷ []
taken_event_fields d (Some event) = event_fields d event

-- an address, and the byte there in two hexadecimal digits
abbrev pub byte_fields : ℕ → ℕ → List (List ℕ)
byte_fields addr byte = decimal addr ∷ hex 2 byte ∷ []

abbrev pub arm_fields : Lines → ℕ → ArmKind → ℕ → ℕ → List (List ℕ)
arm_fields d cq kind index number = cq_name d cq ∷ arm_kind_name kind ∷ decimal index ∷ decimal number ∷ []

abbrev pub what_fields : Lines → What → List (List ℕ)
what_fields d (Post queue items) = codes "post" ∷ queue_name d queue ∷ flat_map item_fields items
what_fields d (PostFull queue pending head tail) = codes "full" ∷ queue_name d queue ∷ decimal pending ∷ decimal head ∷ decimal tail ∷ []
what_fields d (Poll cq most completions) = codes "poll" ∷ cq_name d cq ∷ decimal most ∷ completion_fields d completions
what_fields d (Retire queue count) = codes "retire" ∷ queue_name d queue ∷ decimal count ∷ []
what_fields d (Free srq) = codes "free" ∷ srq_name d srq ∷ []
what_fields d (Ack cq index) = codes "ack" ∷ cq_name d cq ∷ decimal index ∷ []
what_fields d (Arm cq kind index number) = codes "arm" ∷ arm_fields d cq kind index number
what_fields d (TakeEvent eq event) = codes "event" ∷ eq_name d eq ∷ taken_event_fields d event
what_fields d (Submit command) = codes "submit" ∷ command_fields d command
what_fields d (Reply command answer) = codes "reply" ∷ command_fields d command ++ answer_fields answer
what_fields d (ReadByte addr byte) = codes "read" ∷ byte_fields addr byte
what_fields d (WriteByte addr byte) = codes "write" ∷ byte_fields addr byte
what_fields d (Clean cq qp index) = codes "clean" ∷ cq_name d cq ∷ qp_name d qp ∷ decimal index ∷ []
what_fields d (Fetch queue number) = codes "fetch" ∷ queue_name d queue ∷ decimal number ∷ []
what_fields d (TakeReceive queue) = codes "take" ∷ queue_name d queue ∷ []
what_fields d (GetByte addr byte) = codes "get" ∷ byte_fields addr byte
what_fields d (PutByte addr byte) = codes "put" ∷ byte_fields addr byte
what_fields d (Publish cq completion) = codes "publish" ∷ cq_name d cq ∷ completion_text d completion ∷ []
what_fields d (SeeArm cq kind index number) = codes "seearm" ∷ arm_fields d cq kind index number
what_fields d (Event eq event) = codes "notify" ∷ eq_name d eq ∷ event_fields d event
what_fields d (Overrun cq index acked) = codes "overrun" ∷ cq_name d cq ∷ decimal index ∷ decimal acked ∷ []
what_fields d (Lost cq) = codes "lost" ∷ cq_name d cq ∷ []
what_fields d (Execute of command answer) = codes "exec" ∷ actor_name d of ∷ command_fields d command ++ answer_fields answer

-- the actor, and what the entry says
abbrev pub entry_text : Lines → Entry → List ℕ
entry_text d e = line (actor_name d e.actor ∷ what_fields d e.what)

-- how many entries there are
abbrev pub end_text : ℕ → List ℕ
end_text count = line (codes "end" ∷ decimal count ∷ [])

-- a title, the declarations, a line an entry, and their count
abbrev pub history_text : Lines → List Entry → List ℕ
history_text d h = line (codes "mlx5" ∷ codes "history" ∷ []) ++ head_text d ++ flat_map (entry_text d) h ++ end_text (length h)
