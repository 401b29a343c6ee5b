-- Which numbers in a history are those of declared things.
use Rattle.std.specs.Prelude.{ℕ, ◌≡◌, ◌⊎◌, IsTrue, length, All, IfSome}
use Rattle.verbs_types.specs.Lines.{is_among}
use Rattle.verbs_types.specs.declared.completion.Queue.{Queue}
use Rattle.verbs_types.specs.declared.completion.Queue.TheVariants.{Send, Recv, Shared}
use Rattle.verbs_types.specs.declared.completion.Completion.{Completion}
use Rattle.verbs_types.specs.declared.completion.EventRecord.{EventRecord}
use Rattle.verbs_types.specs.declared.completion.EventRecord.TheVariants.{Completion as OfCompletion, CqError}
use Rattle.verbs_types.specs.declared.command.HistoryCommand.{HistoryCommand}
use Rattle.verbs_types.specs.declared.command.HistoryCommand.TheVariants.{Make, MakeKey, RstToInit, InitToRtr, RtrToRts, ToErr, Modify, Destroy}
use Rattle.verbs_types.specs.declared.declaration.Object.{Object}
use Rattle.verbs_types.specs.declared.declaration.Object.TheVariants.{Eq, Pd, Cq, Qp}
use Rattle.verbs_types.specs.declared.declaration.Lines.{Lines}
use Rattle.verbs_types.specs.declared.declaration.TheConstants.{FIRST_PD, FIRST_QP}
use Rattle.verbs_types.specs.declared.entry.Entry.{Entry}
use Rattle.verbs_types.specs.declared.entry.What.{What}
use Rattle.verbs_types.specs.declared.entry.What.TheVariants.{Post, PostFull, Poll, Retire, Free, Ack, Arm, TakeEvent, Submit, Reply, ReadByte, WriteByte, Clean, Fetch, TakeReceive, GetByte, PutByte, Publish, SeeArm, Event, Overrun, Lost, Execute}
use Rattle.verbs_types.specs.declared.entry.TheConstants.{ADAPTER, CONTROL}

abbrev pub IsEq : Lines → ℕ → Type 0
IsEq d n = IsTrue (is_among 0 (length d.eqs) n)

abbrev pub IsPd : Lines → ℕ → Type 0
IsPd d n = IsTrue (is_among FIRST_PD (length d.pds) n)

abbrev pub IsCq : Lines → ℕ → Type 0
IsCq d n = IsTrue (is_among 0 (length d.cqs) n)

abbrev pub IsQp : Lines → ℕ → Type 0
IsQp d n = IsTrue (is_among FIRST_QP (length d.qps) n)

abbrev pub IsObject : Lines → Object → Type 0
IsObject d (Eq n) = IsEq d n
IsObject d (Pd n) = IsPd d n
IsObject d (Cq n) = IsCq d n
IsObject d (Qp n) = IsQp d n

-- no shared receive queue can be declared yet
abbrev pub IsSrq : Lines → ℕ → Type 0
IsSrq d n = ⊥

abbrev pub IsQueue : Lines → Queue → Type 0
IsQueue d (Send qp) = IsQp d qp
IsQueue d (Recv qp) = IsQp d qp
IsQueue d (Shared srq) = IsSrq d srq

abbrev pub IsCompletion : Lines → Completion → Type 0
IsCompletion d c = IsQueue d c.queue × IsQp d c.qp

abbrev pub IsEvent : Lines → EventRecord → Type 0
IsEvent d (OfCompletion cq) = IsCq d cq
IsEvent d (CqError cq) = IsCq d cq

-- each object that the command names is declared; a region has its own name
abbrev pub CommandNames : Lines → HistoryCommand → Type 0
CommandNames d (Make object) = IsObject d object
CommandNames d (MakeKey region key) = IsPd d region.pd
CommandNames d (RstToInit qp) = IsQp d qp
CommandNames d (InitToRtr qp peer) = IsQp d qp × IsQp d peer
CommandNames d (RtrToRts qp) = IsQp d qp
CommandNames d (ToErr qp) = IsQp d qp
CommandNames d (Modify cq log) = IsCq d cq
CommandNames d (Destroy object) = IsObject d object
CommandNames d _ = Unit {0}

-- the number of a thread: the first is 1
abbrev pub IsThread : Lines → ℕ → Type 0
IsThread d n = IsTrue (is_among 1 (length d.threads) n)

abbrev pub IsActor : Lines → ℕ → Type 0
IsActor d n = (n ≡ ADAPTER) ⊎ (n ≡ CONTROL) ⊎ IsThread d n

-- each object and each actor that the entry names is declared
abbrev pub NamesDeclared : Lines → What → Type 0
NamesDeclared d (Post queue items) = IsQueue d queue
NamesDeclared d (PostFull queue pending head tail) = IsQueue d queue
NamesDeclared d (Poll cq most completions) = IsCq d cq × All (IsCompletion d) completions
NamesDeclared d (Retire queue count) = IsQueue d queue
NamesDeclared d (Free srq) = IsSrq d srq
NamesDeclared d (Ack cq index) = IsCq d cq
NamesDeclared d (Arm cq kind index number) = IsCq d cq
NamesDeclared d (TakeEvent eq event) = IsEq d eq × IfSome event (IsEvent d)
NamesDeclared d (Submit command) = CommandNames d command
NamesDeclared d (Reply command answer) = CommandNames d command
NamesDeclared d (ReadByte addr byte) = Unit {0}
NamesDeclared d (WriteByte addr byte) = Unit {0}
NamesDeclared d (Clean cq qp index) = IsCq d cq × IsQp d qp
NamesDeclared d (Fetch queue number) = IsQueue d queue
NamesDeclared d (TakeReceive queue) = IsQueue d queue
NamesDeclared d (GetByte addr byte) = Unit {0}
NamesDeclared d (PutByte addr byte) = Unit {0}
NamesDeclared d (Publish cq completion) = IsCq d cq × IsCompletion d completion
NamesDeclared d (SeeArm cq kind index number) = IsCq d cq
NamesDeclared d (Event eq event) = IsEq d eq × IsEvent d event
NamesDeclared d (Overrun cq index acked) = IsCq d cq
NamesDeclared d (Lost cq) = IsCq d cq
NamesDeclared d (Execute of command answer) = IsActor d of × CommandNames d command

-- an entry of a declared actor about declared objects
abbrev pub IsEntry : Lines → Entry → Type 0
IsEntry d e = IsActor d e.actor × NamesDeclared d e.what
