-- What holds between the operations of a run, and what an operation makes of it.
use Rattle.std.specs.Prelude.{◌≡◌, ℕ, zero, suc, List, [], ◌∷◌, length, IsTrue, Option, None, Some, option_map}
use Rattle.bus_core.specs.Mark.{Marked}
use Rattle.bus_core.specs.Trace.{Memory, Tells, after_entry}
use Rattle.verbs_types.specs.declared.call.Call.{Call}
use Rattle.verbs_types.specs.declared.completion.Queue.{Queue}
use Rattle.verbs_types.specs.declared.declaration.Lines.{Lines}
use Rattle.verbs_types.specs.declared.declaration.TheConstants.{FIRST_QP}
use Rattle.verbs_types.specs.declared.entry.Entry.{Entry}
use Rattle.verbs_rules.specs.Answered.{Due, MayAnswer}
use Rattle.actor_map.specs.Notes.{Told, IsServed, with_seen}
use Rattle.verbs_types.specs.Lines.{is_among, is_declared}
use Rattle.verbs_rules.specs.Start.{start_pair}
use Rattle.verbs_rules.specs.State.{Device, Verbs}
use Rattle.verbs_rules.specs.Step.{MayStep}
use Rattle.verbs_rules.specs.Running.{Running, after_turn}
use Rattle.device_engine.specs.State.{AdapterRule}
use Rattle.verbs_types.specs.declared.completion.Queue.TheVariants.{Send}
use Rattle.object_places.specs.Objects.{Mark, Lives, Completions, Sends}
use Rattle.object_places.specs.Apart.{ArePlaced, AreApart}
use Rattle.actor_rules.specs.Thread.{Thread, QueueLives}
use Rattle.actor_rules.specs.Actors.{Actors, by, after_by, what_of, sees_of}
use Rattle.actor_rules.specs.Roles.{May, MayAny, part}
use Rattle.actor_rules.specs.Dues.{dues_at}
use Rattle.verbs_rules.specs.Within.{Bounds, InBounds}
use Rattle.verbs_rules.specs.Shape.{Shape, shape_of}
use Rattle.actor_rules.specs.View.{View, view}
use Rattle.actor_rules.specs.Objects.{Lists, AllTiedIn}
use Rattle.actor_rules.specs.Queues.{QueueIn}
use Rattle.actor_rules.specs.Completions.{CompletionsStand}
use Rattle.actor_rules.specs.Adapter.{AdapterStandsAt}
use Rattle.actor_rules.specs.Threads.{ThreadStands}

-- the queue pairs and what lives are as they were declared
pub record AsDeclared (d : Lines) (device : Device) : Type 0 where
  pub pairs : (qp : ℕ) → device.pairs qp ≡ start_pair d qp
  pub pair_lives : (qp : ℕ) → device.pair_lives qp ≡ is_among FIRST_QP (length d.qps) qp
  pub completions_live : (cq : ℕ) → device.completions_live cq ≡ is_among 0 (length d.cqs) cq

-- each queue of words stands for its queue of the abstract state
pub record StateIn (d : Lines) (s : View) (l : Lists) (v : Verbs) : Type 0 where
  pub queues : (queue : Queue) → QueueLives d queue → QueueIn d s v (l.queues queue) queue
  pub completions : (cq : ℕ) → Lives d (Completions cq) → CompletionsStand d l (s.polls cq) (s.given cq) v cq
  pub taken : (qp : ℕ) → Lives d (Sends qp) → s.taken qp ≡ v.device.taken (Send qp)

-- the state and what is owed are sound in themselves
pub record IsSound (d : Lines) (programs : List (List Call)) (total : Bounds) (v : Verbs) (dues : List (List Due)) : Type 0 where
  pub declared : AsDeclared d v.device
  pub long : length dues ≡ length programs
  pub bounded : InBounds (length d.qps) total v dues

-- All that stands but for the adapter's work.
pub record BareIn (d : Lines) (programs : List (List Call)) (total : Bounds) (m : Memory) (s : View) (threads_are : ℕ → Thread) (l : Lists) (v : Verbs) (dues : List (List Due)) : Type 0 where
  pub objects : AllTiedIn d m s l
  pub state : StateIn d s l v
  pub threads : (t : ℕ) → ThreadStands d programs (suc t) (threads_are (suc t)) (dues_at dues (suc t))
  pub sound : IsSound d programs total v dues

-- So it is for some queues of words, and the adapter's work is what the state owes.
pub record StandsIn (d : Lines) (programs : List (List Call)) (total : Bounds) (m : Memory) (s : View) (threads_are : ℕ → Thread) (a : AdapterRule) (v : Verbs) (dues : List (List Due)) : Type 0 where
  pub lists : Lists
  pub bare : BareIn d programs total m s threads_are lists v dues
  pub work : AdapterStandsAt d lists v a a.at_work

abbrev pub Bare : Lines → List (List Call) → Bounds → Memory → Actors → Lists → Verbs → List (List Due) → Type 0
Bare d programs total m w l v dues = BareIn d programs total m (view programs w) w.threads l v dues

abbrev pub Stands : Lines → List (List Call) → Bounds → Memory → Actors → Verbs → List (List Due) → Type 0
Stands d programs total m w v dues = StandsIn d programs total m (view programs w) w.threads w.adapter v dues

pub record Holds (d : Lines) (programs : List (List Call)) (total : Bounds) (m : Memory) (w : Actors) (r : Running) : Type 0 where
  pub dues : List (List Due)
  pub owed : r.owed ≡ dues_at dues
  pub stands : Stands d programs total m w r.verbs dues

-- an entry is a step of the verbs queues, and one that its thread owes
abbrev pub IsDue : Running → ℕ → Entry → Type 0
IsDue r zero e = Unit {0}
IsDue r (suc t) e = MayAnswer (r.owed (suc t)) e.what

-- and what its maker saw serves for it
pub record MayTurn (r : Running) (t : Told) : Type 0 where
  pub legal : MayStep r.verbs t.entry
  pub due : IsDue r t.entry.actor t.entry
  pub serves : IsServed r.verbs t

-- what an operation keeps that has seen so many of another actor's, and says this
abbrev pub Goes : Lines → List (List Call) → Bounds → Memory → Actors → Running → ℕ → Option Entry → Type 0
Goes d programs total m w r seen None = Holds d programs total m w r
Goes d programs total m w r seen (Some e) = MayTurn r (with_seen seen e) × Holds d programs total m w (after_turn r e)

-- objects lie where they should, and apart
pub record IsMapped (d : Lines) : Type 0 where
  pub declared : IsTrue (is_declared d)
  pub placed : ArePlaced
  pub apart : AreApart

-- what an operation of this actor makes of what holds
abbrev pub GoesBy : Lines → List (List Call) → Bounds → Memory → Actors → Running → ℕ → Marked Mark → Type 0
GoesBy d programs total m w r actor x = Goes d programs total (after_entry m x.entry) (after_by d w actor x) r (sees_of d w actor x) (option_map (by actor) (what_of d w actor x))

-- each operation that its actor's rule allows keeps what holds
abbrev pub AllGo : Lines → List (List Call) → Bounds → Type 0
AllGo d programs total = (m : Memory) (w : Actors) (r : Running) (x : Marked Mark) → Holds d programs total m w r → Tells m x.entry → MayAny d w x → GoesBy d programs total m w r x.entry.actor x

-- each one of this actor, where all actors are so before it
abbrev pub ActorGoes : Lines → List (List Call) → Bounds → ℕ → (Actors → Type 0) → Type 0
ActorGoes d programs total actor so = (m : Memory) (w : Actors) (r : Running) (x : Marked Mark) → Holds d programs total m w r → Tells m x.entry → x.entry.actor ≡ actor → so w → May d actor (part actor w) x → GoesBy d programs total m w r actor x

-- the first call that is left is of such a shape
abbrev pub IsFirst : (Shape → Type 0) → List Call → Type 0
IsFirst such [] = ⊥
IsFirst such (call ∷ rest) = such (shape_of call)

-- each one of a thread that is in such a call, or begins one
abbrev pub CallsGo : Lines → List (List Call) → Bounds → (Shape → Type 0) → Type 0
CallsGo d programs total such = (t : ℕ) → ActorGoes d programs total (suc t) (λ w. IsFirst such (w.threads (suc t)).calls)
