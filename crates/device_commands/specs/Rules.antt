-- What each command needs, in the order in which it is looked at.
use Rattle.std.specs.Prelude.{ℕ, ◌&&◌, nat_le, not, Bool, true, false, List, [], ◌∷◌, take, Option, Some, None, is_some}
use Rattle.std.specs.Option.{option_map_or}
use Rattle.prm_fields.specs.Refusal.{Rule, rule, first_refusal}
use Rattle.hca_pages.specs.declared.fault.HcaFault.{HcaFault}
use Rattle.hca_pages.specs.declared.fault.HcaFault.TheVariants.{BadSystemState}
use Rattle.hca_pages.specs.Adapter.{is_running}
use Rattle.hca_pages.specs.Faults.{enable_fault, query_fault, give_fault, init_fault, teardown_fault, take_back_fault, disable_fault}
use Rattle.qp_state.specs.declared.moves.QpMove.{QpMove}
use Rattle.qp_state.specs.declared.moves.QpMove.TheVariants.{ToInit, ToRtr, ToRts, ToErr}
use Rattle.qp_state.specs.Moves.{next_state}
use Rattle.cmd_bodies.specs.declared.command.PageList.{PageList}
use Rattle.cmd_bodies.specs.declared.command.Command.{Command}
use Rattle.cmd_bodies.specs.declared.command.Command.TheVariants.{EnableHca, DisableHca, InitHca, TeardownHca, QueryPages, GivePages, ReturnPages, AllocPd, DeallocPd, AllocUar, DeallocUar, CreateMkey, DestroyMkey, CreateEq, DestroyEq, CreateCq, DestroyCq, ModifyCq, CreateSrq, DestroySrq, CreateQp, DestroyQp, RstToInit, InitToRtr, RtrToRts, ToErr as TwoErr}
use Rattle.device_commands.specs.declared.refusal.Refusal.{Refusal}
use Rattle.device_commands.specs.declared.refusal.Refusal.TheVariants.{NotDone, Adapter, BadResource, BadParameter, BadQpState, Busy}
use Rattle.device_commands.specs.Refusal.{code_of}
use Rattle.device_commands.specs.Objects.{Objects, pd_lives, uar_lives, eq_lives, cq_lives, qp_lives, qp_at, all_live, is_pd_used, is_eq_used, is_cq_used}
use Rattle.device_commands.specs.Next.{has_next_pd, has_next_uar, next_eq, next_cq, next_qp}
use Rattle.device_commands.specs.Tables.{Tables}

-- the first of two
abbrev pub or_then : Option Refusal → Option Refusal → Option Refusal
or_then None next = next
or_then (Some refusal) next = Some refusal

-- a refusal of the start order
abbrev pub adapter_refusal : Option HcaFault → Option Refusal
adapter_refusal None = None
adapter_refusal (Some fault) = Some (Adapter fault)

-- at most the pages that a list of a command holds
abbrev pub length_refusal : ℕ → Option Refusal
length_refusal count = first_refusal (rule (nat_le count 88) BadParameter ∷ [])

abbrev pub pages_in : PageList → List ℕ
pages_in list = take list.count list.pages

-- the queue pair of this number is in a state from which it moves so
abbrev pub may_move : Objects → ℕ → QpMove → Bool
may_move o qp move = option_map_or (λ q. is_some (next_state q.state move)) (qp_at o qp) false

abbrev pub move_rules : Objects → ℕ → QpMove → List (Rule Refusal)
move_rules o qp move = rule (qp_lives o qp) BadResource ∷ rule (may_move o qp move) BadQpState ∷ []

abbrev pub move_refusal : Objects → ℕ → QpMove → Option Refusal
move_refusal o qp move = first_refusal (move_rules o qp move)

-- what a command needs of the objects, once the adapter is running
abbrev pub object_rules : Objects → Command → List (Rule Refusal)
object_rules o AllocPd = rule (has_next_pd o) BadParameter ∷ []
object_rules o (DeallocPd pd) = rule (pd_lives o pd) BadResource ∷ rule (not (is_pd_used o pd)) Busy ∷ []
object_rules o AllocUar = rule (has_next_uar o) BadParameter ∷ []
object_rules o (DeallocUar page) = rule (uar_lives o page) BadResource ∷ []
object_rules o (CreateEq block) = rule (uar_lives o block.uar) BadResource ∷ rule (is_some (next_eq o block)) BadParameter ∷ []
object_rules o (DestroyEq eq) = rule (eq_lives o eq) BadResource ∷ rule (not (is_eq_used o eq)) Busy ∷ []
object_rules o (CreateCq context) =
    rule (eq_lives o context.c_eqn && uar_lives o context.uar_page) BadResource ∷ rule (is_some (next_cq o context)) BadParameter ∷ []
object_rules o (DestroyCq cq) = rule (cq_lives o cq) BadResource ∷ rule (not (is_cq_used o cq)) Busy ∷ []
object_rules o (CreateQp block) =
    rule (all_live o block) BadResource ∷ rule (is_some (next_qp o block)) BadParameter ∷ []
object_rules o (DestroyQp qp) = rule (qp_lives o qp) BadResource ∷ []
object_rules o (RstToInit qp) = move_rules o qp ToInit
object_rules o (InitToRtr qp peer) = rule (qp_lives o peer) BadResource ∷ move_rules o qp (ToRtr peer)
object_rules o (RtrToRts qp) = move_rules o qp ToRts
object_rules o (TwoErr qp) = move_rules o qp ToErr
object_rules o _ = rule false NotDone ∷ []

abbrev pub object_refusal : Objects → Command → Option Refusal
object_refusal o c = first_refusal (object_rules o c)

-- the commands that speak of objects
abbrev pub is_of_objects : Command → Bool
is_of_objects EnableHca = false
is_of_objects DisableHca = false
is_of_objects InitHca = false
is_of_objects TeardownHca = false
is_of_objects (QueryPages which) = false
is_of_objects (GivePages list) = false
is_of_objects (ReturnPages count) = false
is_of_objects (CreateMkey context) = false
is_of_objects (DestroyMkey key) = false
is_of_objects (ModifyCq cq area context) = false
is_of_objects (CreateSrq block) = false
is_of_objects (DestroySrq srq) = false
is_of_objects _ = true

-- the same of a command of which the adapter does nothing before it is running
abbrev pub running_refusal : Tables → Command → Option Refusal
running_refusal t c = or_then (first_refusal (rule (is_running t.adapter.phase) (Adapter BadSystemState) ∷ [])) (object_refusal t.objects c)

-- the refusal of a command, if any
abbrev pub refusal_of : Tables → Command → Option Refusal
refusal_of t EnableHca = adapter_refusal (enable_fault t.adapter)
refusal_of t DisableHca = adapter_refusal (disable_fault t.adapter)
refusal_of t InitHca = adapter_refusal (init_fault t.adapter)
refusal_of t TeardownHca = adapter_refusal (teardown_fault t.adapter)
refusal_of t (QueryPages which) = adapter_refusal (query_fault t.adapter)
refusal_of t (GivePages list) = or_then (length_refusal list.count) (adapter_refusal (give_fault t.adapter (pages_in list)))
refusal_of t (ReturnPages count) = or_then (length_refusal count) (adapter_refusal (take_back_fault t.adapter count))
refusal_of t (CreateMkey context) = Some NotDone
refusal_of t (DestroyMkey key) = Some NotDone
refusal_of t (ModifyCq cq area context) = Some NotDone
refusal_of t (CreateSrq block) = Some NotDone
refusal_of t (DestroySrq srq) = Some NotDone
refusal_of t c = running_refusal t c

-- the command status: 0 is success
abbrev pub status_in : Option Refusal → ℕ
status_in None = 0
status_in (Some refusal) = code_of refusal

abbrev pub status_of : Tables → Command → ℕ
status_of t c = status_in (refusal_of t c)
