-- What holds of the lines read so far, as long as they pass no limit.
use Rattle.std.proofs.Common.{◌≡◌, ℕ, suc, ◌+◌, ◌-◌, ◌^◌, ◌<◌, ◌≤◌, false, List, [], ◌∷◌, ◌++◌, length, get_or, All, IsTrue, Option, None, Some, slice_get, unwrap_or}
use Rattle.std.specs.Bool.{⊤}
use Rattle.std.specs.List.{list_all}
use Rattle.verbs_types.specs.Lines.{is_among, are_few, are_in_turn, is_eq_line, is_cq_line, is_qp_line, is_connect_line}
use Rattle.verbs_types.specs.declared.call.Call.{Call}
use Rattle.verbs_types.specs.declared.call.Call.TheVariants as calls
use Rattle.verbs_types.specs.declared.declaration.CqLine.{CqLine}
use Rattle.verbs_types.specs.declared.declaration.Lines.{Lines}
use Rattle.verbs_types.specs.declared.declaration.Object.TheVariants as objects
use Rattle.verbs_types.specs.declared.declaration.TheConstants.{FIRST_PD, FIRST_QP}
use Rattle.verbs_types.specs.declared.request.Receive.{Receive}
use Rattle.verbs_types.specs.declared.request.Request.{Request}
use Rattle.scenario_text.specs.Calls.{CanReceive, IsPlainNop, IsCall, IsProgram, segments_of}
use Rattle.scenario_text.specs.Keywords.{place_of}
use Rattle.scenario_text.specs.Limits.{completing_into}
use Rattle.scenario_text.specs.Naming.{Entry}
use Rattle.scenario_text.specs.Running.{IsActorOf, items_of_plan}
use Rattle.scenario_text.specs.Sofar.{Said}
use Rattle.scenario_text.specs.declared.keyword.Section.{Section}
use Rattle.scenario_text.specs.declared.names.Meaning.{Meaning}
use Rattle.scenario_text.specs.declared.names.Meaning.TheVariants.{Taken, Actor, Object}
use Rattle.scenario_text.specs.declared.scenario.Plan.{Plan}
use Rattle.scenario_text.specs.declared.slot.Kind.{Kind}
use Rattle.scenario_text.specs.declared.slot.Kind.TheVariants as kinds
use Rattle.scenario_text.specs.declared.sofar.PairUse.{PairUse}
use Rattle.scenario_text.specs.declared.sofar.Place.{Place}
use Rattle.scenario_text.specs.declared.sofar.Place.TheVariants.{Outside, InThread, InPost, InRecv}
use Rattle.scenario_text.specs.declared.sofar.QueueUse.{QueueUse}

-- the lines before the threads are of the grammar, and few threads are named
pub record AreDeclared (d : Lines) : Type 0 where
  pub few : IsTrue (are_few d)
  pub turn : IsTrue (are_in_turn d 0 FIRST_PD 0 FIRST_QP d.order)
  pub eqs : IsTrue (list_all is_eq_line d.eqs)
  pub cqs : IsTrue (list_all (is_cq_line d) d.cqs)
  pub qps : IsTrue (list_all (is_qp_line d) d.qps)
  pub connects : IsTrue (list_all (is_connect_line d) d.connects)
  pub threads : length d.threads ≤ 16

-- there is an object or an actor of the kind with this number
abbrev pub IsNumber : Lines → Kind → ℕ → Type 0
IsNumber d kinds.Eq n = IsTrue (is_among 0 (length d.eqs) n)
IsNumber d kinds.Pd n = IsTrue (is_among FIRST_PD (length d.pds) n)
IsNumber d kinds.Cq n = IsTrue (is_among 0 (length d.cqs) n)
IsNumber d kinds.Qp n = IsTrue (is_among FIRST_QP (length d.qps) n)
IsNumber d kinds.Actor n = n ≤ length d.threads

-- what is meant is there
abbrev pub IsThere : Lines → Meaning → Type 0
IsThere d Taken = ⊤
IsThere d (Actor n) = IsNumber d kinds.Actor n
IsThere d (Object (objects.Eq n)) = IsNumber d kinds.Eq n
IsThere d (Object (objects.Pd n)) = IsNumber d kinds.Pd n
IsThere d (Object (objects.Cq n)) = IsNumber d kinds.Cq n
IsThere d (Object (objects.Qp n)) = IsNumber d kinds.Qp n

abbrev pub AllThere : Lines → List Entry → Type 0
AllThere d names = All (λ (e : Entry). IsThere d e.meaning) names

-- the calls of all threads, those of the thread and of the post in which the next line stands too
abbrev pub shown_in : Place → List (List Call) → List Call → List Request → List Receive → List (List Call)
shown_in Outside programs program requests receives = programs
shown_in InThread programs program requests receives = programs ++ program ∷ []
shown_in (InPost qp) programs program requests receives = programs ++ (program ++ calls.Post qp requests ∷ []) ∷ []
shown_in (InRecv qp) programs program requests receives = programs ++ (program ++ calls.Recv qp receives ∷ []) ∷ []

abbrev pub shown : Said → List (List Call)
shown s = shown_in s.place s.programs s.calls s.requests s.receives

-- a post whose requests follow
pub record IsPost (d : Lines) (qp : ℕ) (requests : List Request) : Type 0 where
  pub there : IsTrue (is_among FIRST_QP (length d.qps) qp)
  pub few : length requests ≤ 16
  pub plain : All IsPlainNop requests

-- the same of receives
pub record IsRecv (d : Lines) (qp : ℕ) (receives : List Receive) : Type 0 where
  pub there : IsTrue (is_among FIRST_QP (length d.qps) qp)
  pub few : length receives ≤ 16
  pub right : All (CanReceive (segments_of d qp)) receives

-- the thread and the post in which the next line stands
abbrev pub IsOpen : Lines → Place → List Call → List Request → List Receive → Type 0
IsOpen d Outside program requests receives = (program ≡ []) × (requests ≡ []) × (receives ≡ [])
IsOpen d InThread program requests receives = IsProgram d program × (requests ≡ []) × (receives ≡ [])
IsOpen d (InPost qp) program requests receives = (length program < 65536) × All (IsCall d) program × IsPost d qp requests × (receives ≡ [])
IsOpen d (InRecv qp) program requests receives = (length program < 65536) × All (IsCall d) program × (requests ≡ []) × IsRecv d qp receives

-- how the queue pair and the queue at a place are used
abbrev pub poster_at : List PairUse → ℕ → Option ℕ
poster_at pairs place = (unwrap_or (slice_get pairs place) (record { connected = false; poster = None; receiver = None })).poster

abbrev pub receiver_at : List PairUse → ℕ → Option ℕ
receiver_at pairs place = (unwrap_or (slice_get pairs place) (record { connected = false; poster = None; receiver = None })).receiver

abbrev pub poller_at : List QueueUse → ℕ → Option ℕ
poller_at queues place = (unwrap_or (slice_get queues place) (record { poller = None; room = 0 })).poller

abbrev pub room_at : List QueueUse → ℕ → ℕ
room_at queues place = (unwrap_or (slice_get queues place) (record { poller = None; room = 0 })).room

-- the thread with this number has the side of the queue that the call uses
abbrev pub IsHeld : List PairUse → List QueueUse → ℕ → Call → Type 0
IsHeld pairs queues thread (calls.Post qp requests) = poster_at pairs (qp - FIRST_QP) ≡ Some thread
IsHeld pairs queues thread (calls.Recv qp receives) = receiver_at pairs (qp - FIRST_QP) ≡ Some thread
IsHeld pairs queues thread (calls.Poll cq most) = poller_at queues cq ≡ Some thread
IsHeld pairs queues thread (calls.Drain cq count) = poller_at queues cq ≡ Some thread

-- P holds of each item with its number, counted from 1
abbrev pub Each : {X : Type 0} → (ℕ → X → Type 0) → List X → Type 0
Each {X} P xs = (k : ℕ) (d : X) → k < length xs → P (suc k) (get_or xs k d)

abbrev pub AllHeld : List PairUse → List QueueUse → ℕ → List Call → Type 0
AllHeld pairs queues thread program = All (IsHeld pairs queues thread) program

abbrev pub AreHeld : List PairUse → List QueueUse → List (List Call) → Type 0
AreHeld pairs queues programs = Each (AllHeld pairs queues) programs

-- what was posted and the room that is left fill the queue
abbrev pub AreFilled : Lines → List QueueUse → List (List Call) → Type 0
AreFilled d queues programs = (c : ℕ) (l : CqLine) → slice_get d.cqs c ≡ Some l → room_at queues c + completing_into c FIRST_QP d.qps programs ≡ 2 ^ l.log

abbrev pub IsPlanned : Lines → Plan → Type 0
IsPlanned d plan = All (IsActorOf (length d.threads)) (items_of_plan plan)

-- no thread stands among the objects or the connect lines
abbrev pub IsEarly : Section → List (List Call) → Type 0
IsEarly section programs = place_of section ≤ 1 → programs ≡ []

pub record Stands (s : Said) : Type 0 where
  pub declared : AreDeclared s.lines
  pub named : AllThere s.lines s.names
  pub pairs : length s.pairs ≡ length s.lines.qps
  pub queues : length s.queues ≡ length s.lines.cqs
  pub finished : All (IsProgram s.lines) s.programs
  pub opened : IsOpen s.lines s.place s.calls s.requests s.receives
  pub paired : length (shown s) ≡ length s.lines.threads
  pub held : AreHeld s.pairs s.queues (shown s)
  pub filled : AreFilled s.lines s.queues (shown s)
  pub planned : IsPlanned s.lines s.plan
  pub early : IsEarly s.section (shown s)

-- once a limit is passed, nothing more is said
abbrev pub Kept : Said → Type 0
Kept s = s.passed ≡ None → Stands s
