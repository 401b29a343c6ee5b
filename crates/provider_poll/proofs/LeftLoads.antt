-- Each load of a poll brings it nearer to its end.
use Rattle.std.proofs.Common.{◌≡◌, ℕ, suc, ◌+◌, ◌-◌, ◌*◌, ◌<◌, ◌≤◌, ◌==◌, nat_lt, refl, sym, ap, subst, arith, Bool, true, false, if◌then◌else◌, List, [], ◌∷◌, ◌++◌, length, get_or, is_some, Option, None, Some}
use Rattle.std.proofs.lemmas.Bool.{eqb-true, eqb-false, ltb-true, false≢true}
use Rattle.std.proofs.lemmas.List.{length-append}
use Rattle.bus_core.specs.declared.operation.BusEntry.{BusEntry}
use Rattle.bus_core.specs.declared.turn.Step.{Step}
use Rattle.bus_core.specs.declared.turn.Step.TheVariants.{More, Gave, Done}
use Rattle.bus_core.specs.Operation.{loaded}
use Rattle.verbs_types.specs.declared.completion.Completion.{Completion}
use Rattle.cqe_format.specs.declared.completion.Cqe.{Cqe}
use Rattle.owner_ring.specs.Consumer.{Consumer, Waiting, Reading}
use Rattle.owner_ring.specs.Place.{is_owned}
use Rattle.owner_ring.specs.Ring as ring
use Rattle.cq_pair.specs.declared.host.CqDone.{CqDone}
use Rattle.cq_pair.specs.declared.host.CqDone.TheVariants as host
use Rattle.cq_pair.specs.Host.{MayPoll, TakesAs, found}
use Rattle.cq_pair.specs.HostView.{poll_turns}
use Rattle.cq_pair.specs.Mark.{QueueMark, Publish, Lose, Look, Read, Take, Acknowledge, Foreign}
use Rattle.cq_pair.specs.Place.{ring_of}
use Rattle.counted_ring.specs.Retirer.{Retirer, Asked}
use Rattle.counted_ring.specs.RetirerView.{lookup_turns}
use Rattle.provider_poll.specs.declared.answer.PollAnswer.{PollAnswer}
use Rattle.provider_poll.specs.declared.answer.PollAnswer.TheVariants.{Polled}
use Rattle.provider_poll.specs.Completion.{completion_of}
use Rattle.provider_poll.specs.Left.{after_entry, poll_left}
use Rattle.provider_poll.specs.Note.{poll_note}
use Rattle.provider_poll.specs.declared.state.End.{End}
use Rattle.provider_poll.specs.declared.state.PollState.{PollState}
use Rattle.provider_poll.specs.declared.state.PollState.TheVariants.{Idle, Polling, LookingUp, Retiring, Acking}
use Rattle.provider_poll.specs.declared.poll_step.PollStep.{PollStep}
use Rattle.provider_poll.specs.Rule.{PollPlace, PollRule, OnHost, IsNextOf, MayLook, queues_of}
use Rattle.provider_poll.specs.RuleStep.{poll_side_step, after_poll_side, host_step, seen_by}
use Rattle.provider_poll.specs.SendQueue.{SendView, fresh_retirer}
use Rattle.provider_poll.specs.Stores.{may_store, from_ready, storing, storing_first}
use Rattle.provider_poll.specs.PollStep.{with_end, with_none, with_completion, after_look, place_of}

-- What stands between two operations

-- a host that reads has not all words of its entry
abbrev pub IsHost : Consumer → Type 0
IsHost (Waiting acked next) = Unit {0}
IsHost (Reading acked next index last words) = length words ≤ 6

-- where the poll looks at entries
abbrev pub IsHostIn : PollState → Consumer → Type 0
IsHostIn (Polling max ends) c = IsHost c
IsHostIn _ c = Unit {0}

pub host_in : (state : PollState) (c : Consumer) → IsHost c → IsHostIn state c
host_in Idle c fine = tt
host_in (Polling max ends) c fine = fine
host_in (LookingUp max ends completion queue) c fine = tt
host_in (Retiring taken empty left) c fine = tt
host_in (Acking taken empty) c fine = tt

abbrev pub IsWaiting : Consumer → Type 0
IsWaiting (Waiting acked next) = Unit {0}
IsWaiting (Reading acked next index last words) = ⊥

-- the loads of a poll of at most `most` go on, which has given a completion for each end
pub record IsLoading (most given max ends : ℕ) : Type 0 where
  pub asked : max ≡ most
  pub few : ends < most
  pub given_are : given ≡ ends

abbrev pub IsUnderWay : ℕ → ℕ → PollState → Type 0
IsUnderWay most given Idle = ⊥
IsUnderWay most given (Polling max ends) = IsLoading most given max (length ends.items)
IsUnderWay most given (LookingUp max ends c queue) = IsLoading most given max (length ends.items)
IsUnderWay most given (Retiring taken empty left) = length left.items ≤ most
IsUnderWay most given (Acking taken empty) = Unit {0}

turns_few : (c : Consumer) → poll_turns c ≤ 8
turns_few (Waiting acked next) = omega arith
turns_few (Reading acked next index last words) = omega arith

pub lookup_few : (asked : Option Asked) → (1 ≤ lookup_turns asked) × (lookup_turns asked ≤ 2)
lookup_few None = (omega arith, omega arith)
lookup_few (Some a) = (omega arith, omega arith)

pub poll_few : (most given : ℕ) (c : Consumer) (rs : List Retirer) (state : PollState) → IsUnderWay most given state → (0 < poll_left c rs state) × (poll_left c rs state ≤ 11 * most + 1)
poll_few most given c rs Idle h = absurd h
poll_few most given c rs (Polling max ends) h = let few = turns_few c in (omega arith, omega (arith, few, h.asked, h.few))
poll_few most given c rs (LookingUp max ends completion queue) h = let few = lookup_few (get_or rs queue fresh_retirer).asked in (omega arith, omega (arith, few.1, h.asked, h.few))
poll_few most given c rs (Retiring taken empty left) h = (omega arith, omega (arith, h))
poll_few most given c rs (Acking taken empty) h = (omega arith, omega arith)

-- what an operation leaves: the poll is over, or takes less
abbrev pub Goes : ℕ → ℕ → ℕ → PollRule → Step Completion PollAnswer → Type 0
Goes most given before s More = IsUnderWay most given s.state × (poll_left s.host s.retirers s.state < before)
Goes most given before s (Gave completion) = IsUnderWay most (given + 1) s.state × (poll_left s.host s.retirers s.state < before)
Goes most given before s (Done answer) = (s.state ≡ Idle) × IsWaiting s.host

-- Stores of ends

from_few : (queues : List SendView) (ends : List End) → length (from_ready queues ends) ≤ length ends
from_few queues [] = omega arith
from_few queues (x ∷ xs) = by (may_store queues x) (from_few queues xs)
  where
    by : (b : Bool) → length (from_ready queues xs) ≤ length xs → length (if b then x ∷ xs else from_ready queues xs) ≤ suc (length xs)
    by true few = omega arith
    by false few = omega (arith, few)

pub record Stores (most given : ℕ) (c : Consumer) (rs : List Retirer) (ends : ℕ) (state : PollState) : Type 0 where
  pub stands : IsUnderWay most given state
  pub few : poll_left c rs state ≤ ends + 1

pub stores : (most given : ℕ) (c : Consumer) (rs : List Retirer) (queues : List SendView) (taken : ℕ) (empty : Option ℕ) (ends : List End) → length ends ≤ most → Stores most given c rs (length ends) (storing queues taken empty ends)
stores most given c rs queues taken empty ends few = by (from_ready queues ends) (from_few queues ends)
  where
    by : (xs : List End) → length xs ≤ length ends → Stores most given c rs (length ends) (storing_first taken empty xs)
    by [] fewer = record { stands = tt; few = omega arith }
    by (x ∷ xs) fewer = record { stands = omega (arith, few, fewer); few = omega (arith, fewer) }

-- What the loads make of the poll

module _ (most given seen number : ℕ) (queues : List SendView) (max : ℕ) (ends : List End) (shown before : ℕ) (h : IsLoading most given max (length ends)) where
  abbrev Made : Consumer → List Retirer → PollStep → Type 0
  Made c rs turned = Goes most given before (record { host = c; seen = seen; retirers = rs; state = turned.state }) turned.answer

  -- a completion is given
  pub end_goes : (c : Consumer) (rs : List Retirer) (end : End) (completion : Completion) → after_entry max (length ends) < before → Made c rs (with_end number queues max (record { items = ends }) shown end completion)
  end_goes c rs end completion left = by (nat_lt (length ends + 1) max) refl
    where
      long : length (ends ++ end ∷ []) ≡ length ends + 1
      long = length-append ends (end ∷ [])

      by : (b : Bool) → nat_lt (length ends + 1) max ≡ b
          → Made c rs (if b then record { state = Polling max (record { items = ends ++ end ∷ [] }); answer = Gave completion; noted = None } else record { state = storing queues (length ends + 1) None (ends ++ end ∷ []); answer = Gave completion; noted = Some (poll_note number max (length ends + 1) shown) })
      by true e =
          let more = ltb-true (length ends + 1) max e in
          let few = turns_few c in
          (record { asked = h.asked; few = omega (arith, long, more, h.asked); given_are = omega (arith, long, h.given_are) }, omega (arith, long, more, few, left))
      by false e =
          let s = stores most (given + 1) c rs queues (length ends + 1) None (ends ++ end ∷ []) (omega (arith, long, h.few)) in
          (s.stands, omega (arith, s.few, long, left))

  -- no completion is left
  none_goes : (acked next : ℕ) (rs : List Retirer) (word : ℕ) → after_entry max (length ends) < before → Made (Waiting acked next) rs (with_none number queues max (record { items = ends }) shown word)
  none_goes acked next rs word left = by (length ends == 0)
    where
      by : (b : Bool) → Made (Waiting acked next) rs (if b then record { state = Idle; answer = Done (Polled 0 (Some word)); noted = Some (poll_note number max 0 shown) } else record { state = storing queues (length ends) (Some word) ends; answer = More; noted = Some (poll_note number max (length ends) shown) })
      by true = (refl, tt)
      by false =
          let s = stores most given (Waiting acked next) rs queues (length ends) (Some word) ends (omega (arith, h.few)) in
          (s.stands, omega (arith, s.few, left))

  -- one was taken
  taken_goes : (c : Consumer) (rs : List Retirer) (completion : Cqe) → after_entry max (length ends) + 2 < before → Made c rs (after_look number queues max (record { items = ends }) shown (Done (host.Took completion)))
  taken_goes c rs completion left = by (place_of queues completion)
    where
      by : (o : Option ℕ) → Made c rs (with_completion number queues max (record { items = ends }) shown completion o)
      by None = end_goes c rs (record { queue = 0; end = 0 }) (completion_of completion 0) (omega (arith, left))
      by (Some queue) = let few = lookup_few (get_or rs queue fresh_retirer).asked in (h, omega (arith, few.1, left))

-- A load of the completion queue's words

module _ (place : PollPlace) (most given seen : ℕ) (rs : List Retirer) (max : ℕ) (ends : List End) (h : IsLoading most given max (length ends)) (e : BusEntry) where
  abbrev polls : Consumer → PollRule
  polls c = record { host = c; seen = seen; retirers = rs; state = Polling max (record { items = ends }) }

  -- the host after it, and what the poll makes of its answer
  abbrev Looked : ℕ → Consumer → QueueMark → Consumer → Step (Unit {0}) CqDone → Type 0
  Looked before c mark c' step =
      IsHost c' × Goes most given before (record { host = c'; seen = seen_by place (polls c) mark e; retirers = rs; state = (after_look place.cq.number (queues_of place (polls c)) max (record { items = ends }) (seen_by place (polls c) mark e) step).state }) (after_look place.cq.number (queues_of place (polls c)) max (record { items = ends }) (seen_by place (polls c) mark e) step).answer

  abbrev Result : Consumer → QueueMark → Type 0
  Result c mark = IsHost (after_poll_side place (polls c) (OnHost mark) e).host × Goes most given (poll_left c rs (polls c).state) (after_poll_side place (polls c) (OnHost mark) e) (poll_side_step place (polls c) (OnHost mark) e).answer

  first_look : (acked next : ℕ) → Result (Waiting acked next) (Look next)
  first_look acked next = by (is_owned (ring_of place.cq) next (loaded e))
    where
      by : (b : Bool) → Looked (poll_left (Waiting acked next) rs (polls (Waiting acked next)).state) (Waiting acked next) (Look next) (if b then Reading acked next next (loaded e) [] else Waiting acked next) (host_step e (found (if b then None else Some (ring.Empty next))))
      by true = (omega arith, (h, omega arith))
      by false = (tt, none_goes most given (seen_by place (polls (Waiting acked next)) (Look next) e) place.cq.number (queues_of place (polls (Waiting acked next))) max ends (seen_by place (polls (Waiting acked next)) (Look next) e) (poll_left (Waiting acked next) rs (polls (Waiting acked next)).state) h acked next rs (loaded e) (omega arith))

  module _ (acked next index last : ℕ) (words : List ℕ) where
    abbrev c : Consumer
    c = Reading acked next index last words

    one_more : length words ≤ 6 → MayPoll place.cq c Read e → Result c Read
    one_more few may = by (length words == 6) refl may.holds
      where
        long : length (words ++ loaded e ∷ []) ≡ length words + 1
        long = length-append words (loaded e ∷ [])

        by : (b : Bool) → (length words == 6) ≡ b → (if b then Some (ring.Took index (words ++ loaded e ∷ last ∷ [])) else None) ≡ None
            → Looked (poll_left c rs (polls c).state) c Read (if b then Waiting acked (index + 1) else Reading acked next index last (words ++ loaded e ∷ [])) More
        by true e' none = absurd (false≢true (sym (ap is_some none)))
        by false e' none = let differ = eqb-false (length words) 6 e' in (omega (arith, few, differ, long), (h, omega (arith, few, differ, long)))

    last_one : (completion : Cqe) → length words ≤ 6 → MayPoll place.cq c (Take completion) e → Result c (Take completion)
    last_one completion few may = by (length words == 6) refl may.holds
      where
        by : (b : Bool) → (length words == 6) ≡ b → TakesAs completion (if b then Some (ring.Took index (words ++ loaded e ∷ last ∷ [])) else None)
            → Looked (poll_left c rs (polls c).state) c (Take completion) (if b then Waiting acked (index + 1) else Reading acked next index last (words ++ loaded e ∷ [])) (Done (host.Took completion))
        by true e' takes = (tt, taken_goes most given (seen_by place (polls c) (Take completion) e) place.cq.number (queues_of place (polls c)) max ends (seen_by place (polls c) (Take completion) e) (poll_left c rs (polls c).state) h (Waiting acked (index + 1)) rs completion (let all = eqb-true (length words) 6 e' in omega (arith, all)))
        by false e' takes = absurd takes

    next_word : (mark : QueueMark) → IsNextOf c mark → length words ≤ 6 → MayPoll place.cq c mark e → Result c mark
    next_word (Publish completion) next few may = absurd next
    next_word Lose next few may = absurd next
    next_word (Look i) next few may = absurd next
    next_word Read next few may = one_more few may
    next_word (Take completion) next few may = last_one completion few may
    next_word (Acknowledge i) next few may = absurd next
    next_word Foreign next few may = absurd next

  pub look_goes : (c : Consumer) (mark : QueueMark) → IsHost c → MayLook place (polls c) mark e → Result c mark
  look_goes (Waiting acked next) mark fine may = subst (Result (Waiting acked next)) (sym may.next) (first_look acked next)
  look_goes (Reading acked next index last words) mark fine may = next_word acked next index last words mark may.next fine may.polls
