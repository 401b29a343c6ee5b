-- What a command makes of the tables, and its reply.
use Rattle.std.specs.Prelude.{ℕ, ◌+◌, ◌-◌, List, [], ◌∷◌, ◌++◌, length, drop, true, false, Option, Some, None, slice_set, Result, Ok, Err}
use Rattle.std.specs.Option.{option_map, unwrap_or}
use Rattle.verbs_types.specs.declared.state.QpState.TheVariants.{Reset}
use Rattle.verbs_types.specs.declared.declaration.TheConstants.{FIRST_PD, FIRST_QP}
use Rattle.verbs_types.specs.declared.command.PageUse.TheVariants.{Boot as NeededAtBoot, Init as NeededAtInit}
use Rattle.hca_pages.specs.Page.{page_count}
use Rattle.hca_pages.specs.Calls.{Enable, Give, Init, Teardown, TakeBack, Disable, after_call, pages_back}
use Rattle.qp_state.specs.declared.moves.QpMove.{QpMove}
use Rattle.qp_state.specs.declared.moves.QpMove.TheVariants.{ToInit, ToRtr, ToRts, ToErr}
use Rattle.qp_state.specs.Moves.{next_state}
use Rattle.cmd_bodies.specs.declared.command.PageUse.{PageUse}
use Rattle.cmd_bodies.specs.declared.command.PageUse.TheVariants.{Boot as BootPages, Init as InitPages}
use Rattle.cmd_bodies.specs.declared.command.Command.{Command}
use Rattle.cmd_bodies.specs.declared.command.Command.TheVariants.{EnableHca, DisableHca, InitHca, TeardownHca, QueryPages, GivePages, ReturnPages, AllocPd, DeallocPd, AllocUar, DeallocUar, CreateEq, DestroyEq, CreateCq, DestroyCq, CreateQp, DestroyQp, RstToInit, InitToRtr, RtrToRts, ToErr as TwoErr}
use Rattle.cmd_bodies.specs.declared.reply.Reply.{Reply}
use Rattle.cmd_bodies.specs.Reply.{no_pages, reply_of as reply_with}
use Rattle.device_commands.specs.declared.refusal.Refusal.{Refusal}
use Rattle.device_commands.specs.declared.shapes.QpShape.{QpShape}
use Rattle.device_commands.specs.declared.objects.Pair.{Pair}
use Rattle.device_commands.specs.Objects.{Objects, qp_at}
use Rattle.device_commands.specs.Next.{next_cq, next_qp}
use Rattle.device_commands.specs.Rules.{object_refusal, refusal_of, status_in, pages_in}
use Rattle.device_commands.specs.Tables.{Tables}

-- a new queue pair is in reset and has no peer
abbrev pub new_pair : QpShape → Pair
new_pair shape = record { shape = shape; state = Reset; peer = None }

abbrev pub peer_after : QpMove → Option ℕ → Option ℕ
peer_after (ToRtr peer) before = Some peer
peer_after _ before = before

abbrev pub moved_pair : QpMove → Pair → Pair
moved_pair move q = record q { state = unwrap_or (next_state q.state move) q.state; peer = peer_after move q.peer }

abbrev pub moved : Objects → ℕ → QpMove → Objects
moved o qp move = record o { qps = slice_set o.qps (qp - FIRST_QP) (option_map (moved_pair move) (qp_at o qp)) }

-- the objects after a command that is not refused: a new one is the last of its kind
abbrev pub done : Objects → Command → Objects
done o AllocPd = record o { pds = o.pds ++ true ∷ [] }
done o (DeallocPd pd) = record o { pds = slice_set o.pds (pd - FIRST_PD) false }
done o AllocUar = record o { uars = o.uars ++ true ∷ [] }
done o (DeallocUar page) = record o { uars = slice_set o.uars page false }
done o (CreateEq block) = record o { eqs = o.eqs ++ true ∷ [] }
done o (DestroyEq eq) = record o { eqs = slice_set o.eqs eq false }
done o (CreateCq context) = record o { cqs = o.cqs ++ next_cq o context ∷ [] }
done o (DestroyCq cq) = record o { cqs = slice_set o.cqs cq None }
done o (CreateQp block) = record o { qps = o.qps ++ option_map new_pair (next_qp o block) ∷ [] }
done o (DestroyQp qp) = record o { qps = slice_set o.qps (qp - FIRST_QP) None }
done o (RstToInit qp) = moved o qp ToInit
done o (InitToRtr qp peer) = moved o qp (ToRtr peer)
done o (RtrToRts qp) = moved o qp ToRts
done o (TwoErr qp) = moved o qp ToErr
done o _ = o

-- the new value, unless there is a refusal
abbrev pub unless_refused : {T : Type 0} → Option Refusal → T → T → T
unless_refused None old new = new
unless_refused (Some refusal) old new = old

abbrev pub after_object : Objects → Command → Objects
after_object o c = unless_refused (object_refusal o c) o (done o c)

-- what a command makes of the tables; a refusal changes nothing
abbrev pub effect : Tables → Command → Tables
effect t EnableHca = record t { adapter = after_call t.adapter Enable }
effect t DisableHca = record t { adapter = after_call t.adapter Disable }
effect t InitHca = record t { adapter = after_call t.adapter Init }
effect t TeardownHca = record t { adapter = after_call t.adapter Teardown }
effect t (GivePages list) = record t { adapter = after_call t.adapter (Give (pages_in list)) }
effect t (ReturnPages count) = record t { adapter = after_call t.adapter (TakeBack count) }
effect t c = record t { objects = done t.objects c }

abbrev pub after : Tables → Command → Tables
after t c = unless_refused (refusal_of t c) t (effect t c)

-- the number of the object that a command makes
abbrev pub number_made : Objects → Command → ℕ
number_made o AllocPd = FIRST_PD + length o.pds
number_made o AllocUar = length o.uars
number_made o (CreateEq block) = length o.eqs
number_made o (CreateCq context) = length o.cqs
number_made o (CreateQp block) = FIRST_QP + length o.qps
number_made o _ = 0

abbrev pub pages_needed : PageUse → ℕ
pages_needed BootPages = page_count NeededAtBoot
pages_needed InitPages = page_count NeededAtInit

-- a list of pages in the places of a reply, filled up with 0
abbrev pub filled : List ℕ → List ℕ
filled pages = pages ++ drop (length pages) no_pages

abbrev pub reply_to_object : Objects → Command → Reply
reply_to_object o c = reply_with 0 (number_made o c) 0 no_pages

-- the reply to a command that is not refused
abbrev pub good_reply : Tables → Command → Reply
good_reply t (QueryPages which) = reply_with 0 0 (pages_needed which) no_pages
good_reply t (ReturnPages count) = reply_with 0 count count (filled (pages_back t.adapter count))
good_reply t c = reply_to_object t.objects c

-- where a command is refused the reply has its status and nothing else
abbrev pub reply_of : Tables → Command → Reply
reply_of t c = unless_refused (refusal_of t c) (reply_with (status_in (refusal_of t c)) 0 0 no_pages) (good_reply t c)

-- the answer of a function that is refused or has this value
abbrev pub answered : {T : Type 0} → Option Refusal → T → Result T Refusal
answered None value = Ok value
answered (Some refusal) value = Err refusal
