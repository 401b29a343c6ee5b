-- The objects that were made, of each kind in the order of their numbers, and which of them live.
use Rattle.std.specs.Prelude.{ℕ, ◌-◌, ◌==◌, ◌||◌, nat_le, ◌&&◌, Bool, false, List, [], Option, None, is_some, slice_index_or, if◌then◌else◌}
use Rattle.std.specs.List.{list_any}
use Rattle.std.specs.Option.{option_map_or}
use Rattle.verbs_types.specs.declared.declaration.TheConstants.{FIRST_PD, FIRST_QP}
use Rattle.cmd_bodies.specs.declared.contexts.QpBlock.{QpBlock}
use Rattle.device_commands.specs.declared.shapes.CqShape.{CqShape}
use Rattle.device_commands.specs.declared.objects.Pair.{Pair}
use Rattle.device_commands.specs.Shapes.{Declared}

-- An item stands for each object that was made. That of a protection domain, a doorbell page and an event queue says whether it lives; that of a completion queue and a queue pair is None where it does not.
pub record Objects : Type 0 where
  pub declared : Declared
  pub pds : List Bool
  pub uars : List Bool
  pub eqs : List Bool
  pub cqs : List (Option CqShape)
  pub qps : List (Option Pair)

abbrev pub no_objects : Declared → Objects
no_objects declared = record { declared = declared; pds = []; uars = []; eqs = []; cqs = []; qps = [] }

-- what has this number, where numbers count from the first
abbrev pub item_at : {X : Type 0} → ℕ → List X → ℕ → X → X
item_at first items number none = if nat_le first number then slice_index_or items (number - first) none else none

abbrev pub pd_lives : Objects → ℕ → Bool
pd_lives o pd = item_at FIRST_PD o.pds pd false

abbrev pub uar_lives : Objects → ℕ → Bool
uar_lives o page = slice_index_or o.uars page false

abbrev pub eq_lives : Objects → ℕ → Bool
eq_lives o eq = slice_index_or o.eqs eq false

-- the completion queue and the queue pair of this number, if it lives
abbrev pub cq_at : Objects → ℕ → Option CqShape
cq_at o cq = slice_index_or o.cqs cq None

abbrev pub qp_at : Objects → ℕ → Option Pair
qp_at o qp = item_at FIRST_QP o.qps qp None

abbrev pub cq_lives : Objects → ℕ → Bool
cq_lives o cq = is_some (cq_at o cq)

abbrev pub qp_lives : Objects → ℕ → Bool
qp_lives o qp = is_some (qp_at o qp)

-- a live object uses this one: queue pairs use a protection domain and completion queues, completion queues an event queue
abbrev pub is_pd_used : Objects → ℕ → Bool
is_pd_used o pd = list_any (λ qp. option_map_or (λ q. q.shape.pd == pd) qp false) o.qps

abbrev pub is_cq_used : Objects → ℕ → Bool
is_cq_used o cq = list_any (λ qp. option_map_or (λ q. (q.shape.send_cq == cq) || (q.shape.recv_cq == cq)) qp false) o.qps

abbrev pub is_eq_used : Objects → ℕ → Bool
is_eq_used o eq = list_any (λ cq. option_map_or (λ c. c.eq == eq) cq false) o.cqs

-- all that the parameters of a queue pair name lives; no shared receive queue does
abbrev pub all_live : Objects → QpBlock → Bool
all_live o block = pd_lives o block.pd && cq_lives o block.send_cq && cq_lives o block.recv_cq && (block.srq == 0) && uar_lives o block.uar
