-- How far a turn moves the host of a completion queue.
use Rattle.std.proofs.Common.{◌≡◌, ℕ, ◌+◌, ◌≤◌, ◌++◌, ◌==◌, refl, sym, subst, arith, Bool, true, false, List, [], ◌∷◌, length, Option, Some, None, if◌then◌else◌}
use Rattle.bus_core.specs.declared.operation.BusEntry.{BusEntry}
use Rattle.bus_core.specs.declared.turn.Step.{Step}
use Rattle.bus_core.specs.declared.turn.Step.TheVariants.{More, Gave, Done}
use Rattle.bus_core.specs.Operation.{loaded}
use Rattle.owner_ring.specs.Consumer.{Consumer, Waiting, Reading, next_index}
use Rattle.owner_ring.specs.Place.{is_owned}
use Rattle.owner_ring.specs.Ring.{RingEvent}
use Rattle.owner_ring.specs.Ring as ring
use Rattle.cq_pair.specs.declared.host.CqDone.{CqDone}
use Rattle.cq_pair.specs.declared.host.CqDone.TheVariants.{Took, Empty, Acked}
use Rattle.cq_pair.specs.declared.place.CqPlace.{CqPlace}
use Rattle.cq_pair.specs.Place.{ring_of}
use Rattle.cq_pair.specs.Host.{MayPoll, after_poll}
use Rattle.cq_pair.specs.HostView.{HostView, HostTask, HostTurn, PollOne, Acknowledgement, poll_mark}
use Rattle.provider_poll.specs.PollInside.{entry_index}
use Rattle.provider_poll.specs.Turns.{working, IsPollingHost}

-- a host below this index
pub record Fits (side : Consumer) (top : ℕ) : Type 0 where
  pub entry : entry_index side ≤ next_index side
  pub next : next_index side ≤ top

-- after an entry was taken there is one index more
abbrev pub top_after : ℕ → Step (Unit {0}) CqDone → ℕ
top_after n (Done (Took c)) = n + 1
top_after n _ = n

module _ (a n i l : ℕ) (ws xs : List ℕ) where
  taken : (b : Bool) → i ≤ n → Fits (if b then Waiting a (i + 1) else Reading a n i l xs) (n + 1)
  taken true h = record { entry = omega arith; next = omega (arith, h) }
  taken false h = record { entry = h; next = omega arith }

  read_on : (b : Bool) → i ≤ n → (if b then Some (ring.Took i ws) else None) ≡ None → Fits (if b then Waiting a (i + 1) else Reading a n i l xs) n
  read_on true h none = absurd cc
  read_on false h none = record { entry = h; next = omega arith }

looked : (a n w : ℕ) (b : Bool) → Fits (if b then Reading a n n w [] else Waiting a n) n
looked a n w true = record { entry = omega arith; next = omega arith }
looked a n w false = record { entry = omega arith; next = omega arith }

module _ (place : CqPlace) (e : BusEntry) where
  abbrev At : Consumer → Step (Unit {0}) CqDone → Type 0
  At side step = MayPoll place side (poll_mark side step) e → entry_index side ≤ next_index side → Fits (after_poll place side (poll_mark side step) e) (top_after (next_index side) step)

  waiting : (a n : ℕ) (step : Step (Unit {0}) CqDone) → At (Waiting a n) step
  waiting a n More may h = looked a n (loaded e) (is_owned (ring_of place) n (loaded e))
  waiting a n (Gave part) may h = looked a n (loaded e) (is_owned (ring_of place) n (loaded e))
  waiting a n (Done (Took c)) may h = absurd may.ring
  waiting a n (Done (Empty index word)) may h = looked a n (loaded e) (is_owned (ring_of place) n (loaded e))
  waiting a n (Done (Acked ci)) may h = looked a n (loaded e) (is_owned (ring_of place) n (loaded e))

  reading : (a n i l : ℕ) (ws : List ℕ) (step : Step (Unit {0}) CqDone) → At (Reading a n i l ws) step
  reading a n i l ws More may h = read_on a n i l (ws ++ loaded e ∷ l ∷ []) (ws ++ loaded e ∷ []) (length ws == 6) h may.holds
  reading a n i l ws (Gave part) may h = read_on a n i l (ws ++ loaded e ∷ l ∷ []) (ws ++ loaded e ∷ []) (length ws == 6) h may.holds
  reading a n i l ws (Done (Took c)) may h = taken a n i l [] (ws ++ loaded e ∷ []) (length ws == 6) h
  reading a n i l ws (Done (Empty index word)) may h = read_on a n i l (ws ++ loaded e ∷ l ∷ []) (ws ++ loaded e ∷ []) (length ws == 6) h may.holds
  reading a n i l ws (Done (Acked ci)) may h = read_on a n i l (ws ++ loaded e ∷ l ∷ []) (ws ++ loaded e ∷ []) (length ws == 6) h may.holds

  either : (side : Consumer) (step : Step (Unit {0}) CqDone) → At side step
  either (Waiting a n) step = waiting a n step
  either (Reading a n i l ws) step = reading a n i l ws step

-- a turn of a poll
pub polled : (old new : HostView) (e : BusEntry) (step : Step (Unit {0}) CqDone) → HostTurn (working PollOne old) new e step → entry_index old.side ≤ next_index old.side → Fits new.side (top_after (next_index old.side) step)
polled old new e step t h = subst (λ (side : Consumer). Fits side (top_after (next_index old.side) step)) (sym t.side) (either old.place e old.side step t.may h)

-- an acknowledgement
pub acknowledged : (old new : HostView) (e : BusEntry) (step : Step (Unit {0}) CqDone) → HostTurn (working Acknowledgement old) new e step → entry_index new.side ≤ next_index new.side
acknowledged old new e step t = subst (λ (side : Consumer). entry_index side ≤ next_index side) (sym t.side) (omega arith)

-- a host that is not idle is in a poll
pub polls_on : (h : HostView) → IsPollingHost h.task → (h.task ≡ None → ⊥) → h ≡ working PollOne h
polls_on h polling busy = at_task h.task polling busy where
  at_task : (task : Option HostTask) → IsPollingHost task → (task ≡ None → ⊥) → record { place = h.place; side = h.side; task = task; seen = h.seen } ≡ working PollOne h
  at_task None polling busy = absurd (busy refl)
  at_task (Some PollOne) polling busy = refl
  at_task (Some Acknowledgement) polling busy = absurd polling
