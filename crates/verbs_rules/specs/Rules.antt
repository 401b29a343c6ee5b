-- The rules that each entry must meet, and the first that fails.
use Rattle.std.specs.Prelude.{ℕ, Bool, true, false, ◌||◌, ◌&&◌, ◌==◌, List, [], ◌∷◌, Option, None, Some}
use Rattle.std.specs.List.{list_all}
use Rattle.verbs_types.specs.declared.completion.Queue.{Queue}
use Rattle.verbs_types.specs.declared.completion.Queue.TheVariants.{Send, Recv, Shared}
use Rattle.verbs_types.specs.declared.completion.Completion.{Completion}
use Rattle.verbs_types.specs.declared.entry.What.{What}
use Rattle.verbs_types.specs.declared.entry.What.TheVariants.{Post, PostFull, Poll, Retire, Free, Ack, Arm, TakeEvent, Submit, Reply, ReadByte, WriteByte, Clean, Fetch, TakeReceive, GetByte, PutByte, Publish, SeeArm, Event, Overrun, Lost, Execute}
use Rattle.verbs_types.specs.declared.entry.RuleName.{RuleName}
use Rattle.verbs_types.specs.declared.entry.TheConstants.{ADAPTER, CONTROL}
use Rattle.verbs_types.specs.Lines.{is_between}
use Rattle.verbs_rules.specs.State.{Verbs}

-- a rule, and whether it is met
pub record Test : Type 0 where
  pub rule : RuleName
  pub holds : Bool

abbrev pub failing : Bool → RuleName → Option RuleName → Option RuleName
failing true rule others = others
failing false rule others = Some rule

abbrev pub first_failing : List Test → Option RuleName
first_failing [] = None
first_failing (t ∷ ts) = failing t.holds t.rule (first_failing ts)

-- a thread, or the one that opens and closes the adapter
abbrev pub is_host : ℕ → Bool
is_host actor = is_between 1 16 actor || (actor == CONTROL)

-- the entry is one of this actor's
abbrev pub is_by : ℕ → What → Bool
is_by actor (Post queue items) = is_host actor
is_by actor (PostFull queue pending head tail) = is_host actor
is_by actor (Poll cq most completions) = is_host actor
is_by actor (Retire queue count) = is_host actor
is_by actor (Free srq) = is_host actor
is_by actor (Ack cq index) = is_host actor
is_by actor (Arm cq kind index number) = is_host actor
is_by actor (TakeEvent eq event) = is_host actor
is_by actor (Submit command) = is_host actor
is_by actor (Reply command answer) = is_host actor
is_by actor (ReadByte addr byte) = is_host actor
is_by actor (WriteByte addr byte) = is_host actor
is_by actor (Clean cq qp index) = is_host actor
is_by actor (Fetch queue number) = actor == ADAPTER
is_by actor (TakeReceive queue) = actor == ADAPTER
is_by actor (GetByte addr byte) = actor == ADAPTER
is_by actor (PutByte addr byte) = actor == ADAPTER
is_by actor (Publish cq completion) = actor == ADAPTER
is_by actor (SeeArm cq kind index number) = actor == ADAPTER
is_by actor (Event eq event) = actor == ADAPTER
is_by actor (Overrun cq index acked) = actor == ADAPTER
is_by actor (Lost cq) = actor == ADAPTER
is_by actor (Execute of command answer) = actor == ADAPTER

-- no shared receive queue can be declared yet
abbrev pub queue_lives : Verbs → Queue → Bool
queue_lives v (Send qp) = v.device.pair_lives qp
queue_lives v (Recv qp) = v.device.pair_lives qp
queue_lives v (Shared srq) = false

abbrev pub names_living : Verbs → Completion → Bool
names_living v x = queue_lives v x.queue && v.device.pair_lives x.qp

-- Each object that the entry names lives. The entries that are not named here are not built: what they speak of never lives, so they have no step.
abbrev pub objects_live : Verbs → What → Bool
objects_live v (Post queue items) = queue_lives v queue
objects_live v (PostFull queue pending head tail) = queue_lives v queue
objects_live v (Poll cq most completions) = v.device.completions_live cq && list_all (names_living v) completions
objects_live v (Retire queue count) = queue_lives v queue
objects_live v (Ack cq index) = v.device.completions_live cq
objects_live v (Fetch queue number) = queue_lives v queue
objects_live v (Publish cq completion) = v.device.completions_live cq && names_living v completion
objects_live v _ = false
