-- What ties the words of an object, its sides and the queue that it stands for.
use Rattle.std.specs.Prelude.{ℕ, List, slice_index_or}
use Rattle.bus_core.specs.Trace.{Memory}
use Rattle.verbs_types.specs.declared.call.Call.{Call}
use Rattle.verbs_types.specs.declared.completion.Queue.{Queue}
use Rattle.verbs_types.specs.declared.completion.Queue.TheVariants.{Send, Recv}
use Rattle.verbs_types.specs.declared.declaration.Lines.{Lines}
use Rattle.cq_pair.specs.Queue.{PlainQueue}
use Rattle.owner_ring.specs.Consumer.{Consumer}
use Rattle.cq_pair.specs.Device.{QueueDevice}
use Rattle.counted_ring.specs.Device.{WqReader}
use Rattle.cq_pair.proofs.Tied as completions
use Rattle.counted_ring.specs.Law.{fresh_finder, fresh_device}
use Rattle.counted_ring.specs.Poster.{Poster}
use Rattle.counted_ring.specs.Retirer.{Retirer}
use Rattle.counted_ring.specs.Queue as counted
use Rattle.counted_ring.proofs.Tied as requests
use Rattle.object_places.specs.Objects.{Object, Completions, Sends, Receives, Lives}
use Rattle.object_places.specs.Places.{send_of, receive_of, completions_of, qp_line}
use Rattle.provider_poll.specs.Rule.{PollRule}
use Rattle.device_engine.specs.State.{send_cq}
use Rattle.actor_rules.specs.Polling.{place_in}
use Rattle.actor_rules.specs.Actors.{Actors}
use Rattle.actor_rules.specs.View.{View, view}

-- the queues that the words stand for
pub record Lists : Type 0 where
  pub completions : ℕ → PlainQueue
  pub queues : Queue → counted.Queue

-- a retirer by its place, and that of the sends of a queue pair
abbrev pub retirer_in : List Retirer → ℕ → Retirer
retirer_in retirers place = slice_index_or retirers place fresh_finder.retirer

abbrev pub retirer_of : Lines → View → ℕ → Retirer
retirer_of d s qp = retirer_in (s.polls (send_cq d qp)).retirers (place_in d (send_cq d qp) qp)

-- the sides of an object, and the queue that it stands for; no receive is taken or retired yet
pub record CqSides : Type 0 where
  pub device : QueueDevice
  pub host : Consumer
  pub words : PlainQueue

pub record WqSides : Type 0 where
  pub poster : Poster
  pub retirer : Retirer
  pub reader : WqReader
  pub words : counted.Queue

abbrev pub Sides : Object → Type 0
Sides (Completions cq) = CqSides
Sides (Sends qp) = WqSides
Sides (Receives qp) = WqSides

abbrev pub sides : Lines → View → Lists → (o : Object) → Sides o
sides d s l (Completions cq) = record { device = s.devices cq; host = (s.polls cq).host; words = l.completions cq }
sides d s l (Sends qp) = record { poster = s.posters (Send qp); retirer = retirer_of d s qp; reader = s.readers qp; words = l.queues (Send qp) }
sides d s l (Receives qp) = record { poster = s.posters (Recv qp); retirer = fresh_finder.retirer; reader = fresh_device (qp_line d qp).start; words = l.queues (Recv qp) }

-- each object is tied as its queue's law has it
abbrev pub TiedAt : Lines → Memory → (o : Object) → Sides o → Type 0
TiedAt d m (Completions cq) x = completions.Tied (completions_of d cq) m x.device x.host x.words
TiedAt d m (Sends qp) x = requests.Tied (send_of d qp) m x.poster x.retirer x.reader x.words
TiedAt d m (Receives qp) x = requests.Tied (receive_of d qp) m x.poster x.retirer x.reader x.words

abbrev pub TiedIn : Lines → Memory → View → Lists → Object → Type 0
TiedIn d m s l o = TiedAt d m o (sides d s l o)

abbrev pub AllTiedIn : Lines → Memory → View → Lists → Type 0
AllTiedIn d m s l = (o : Object) → Lives d o → TiedIn d m s l o

-- the same of all actors
abbrev pub poll_side : List (List Call) → Actors → ℕ → PollRule
poll_side programs w cq = (view programs w).polls cq

abbrev pub poster_side : List (List Call) → Actors → Queue → Poster
poster_side programs w queue = (view programs w).posters queue

abbrev pub retirer_side : Lines → List (List Call) → Actors → ℕ → Retirer
retirer_side d programs w qp = retirer_of d (view programs w) qp

abbrev pub IsTied : Lines → List (List Call) → Memory → Actors → Lists → Object → Type 0
IsTied d programs m w l o = TiedIn d m (view programs w) l o

abbrev pub AllTied : Lines → List (List Call) → Memory → Actors → Lists → Type 0
AllTied d programs m w l = AllTiedIn d m (view programs w) l
