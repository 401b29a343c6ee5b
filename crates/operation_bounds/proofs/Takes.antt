-- A poll of one completion that has found an entry owned goes on to take it.
use Rattle.std.proofs.Common.{◌≡◌, ℕ, ◌+◌, ◌==◌, nat_lt, refl, sym, ap, subst, arith, Bool, true, false, if◌then◌else◌, List, [], ◌∷◌, ◌++◌, length, is_some, Option, None, Some}
use Rattle.std.proofs.lemmas.Bool.{ltb-true, false≢true}
use Rattle.bus_core.specs.declared.operation.BusEntry.{BusEntry}
use Rattle.bus_core.specs.declared.turn.Step.{Step}
use Rattle.bus_core.specs.declared.turn.Step.TheVariants.{More, Gave, Done}
use Rattle.bus_core.specs.Operation.{loaded}
use Rattle.verbs_types.specs.declared.completion.Completion.{Completion}
use Rattle.cqe_format.specs.declared.completion.Cqe.{Cqe}
use Rattle.owner_ring.specs.Consumer.{Consumer, Waiting, Reading}
use Rattle.owner_ring.specs.Place.{is_owned}
use Rattle.owner_ring.specs.Ring as ring
use Rattle.cq_pair.specs.declared.host.CqDone.{CqDone}
use Rattle.cq_pair.specs.declared.host.CqDone.TheVariants as host
use Rattle.cq_pair.specs.Host.{MayPoll, TakesAs, found}
use Rattle.cq_pair.specs.Mark.{QueueMark, Publish, Lose, Look, Read, Take, Acknowledge, Foreign}
use Rattle.cq_pair.specs.Place.{ring_of}
use Rattle.counted_ring.specs.Mark.{WqMark}
use Rattle.counted_ring.specs.Place.{is_send}
use Rattle.counted_ring.specs.Queue.{WqEvent, Named, Found}
use Rattle.counted_ring.specs.Retirer.{Retirer, Asked, end_after, count_says_for}
use Rattle.counted_ring.specs.RetirerView.{served, is_found, lookup_mark}
use Rattle.provider_poll.specs.declared.answer.PollAnswer.{PollAnswer}
use Rattle.provider_poll.specs.declared.state.End.{End}
use Rattle.provider_poll.specs.declared.state.PollState.{PollState}
use Rattle.provider_poll.specs.declared.state.PollState.TheVariants.{Idle, Polling, LookingUp, Retiring, Acking}
use Rattle.provider_poll.specs.declared.poll_step.PollStep.{PollStep}
use Rattle.provider_poll.specs.Completion.{completion_of}
use Rattle.provider_poll.specs.Note.{poll_note}
use Rattle.provider_poll.specs.Rule.{PollPlace, PollRule, PollMark, OnHost, OnQueue, IsNextOf, MayGoOn, MayLookUp, queues_at, queues_of, found_before}
use Rattle.provider_poll.specs.RuleStep.{poll_side_step, after_poll_side, host_step, retirer_step, retirers_with, asked_with, seen_by}
use Rattle.provider_poll.specs.SendQueue.{SendView}
use Rattle.provider_poll.specs.Stores.{from_ready, storing, storing_first}
use Rattle.provider_poll.specs.PollStep.{with_end, with_completion, after_look, after_lookup, place_of}
use Rattle.actor_rules.specs.Polling.{is_loading}
use Rattle.provider_poll.proofs.LeftLoads.{IsLoading, IsUnderWay}

-- it reads the entry, or looks its request up
abbrev pub IsTaking : Consumer → PollState → Type 0
IsTaking c Idle = ⊥
IsTaking (Waiting acked next) (Polling max ends) = ⊥
IsTaking (Reading acked next index last words) (Polling max ends) = Unit {0}
IsTaking c (LookingUp max ends completion queue) = Unit {0}
IsTaking c (Retiring taken empty left) = ⊥
IsTaking c (Acking taken empty) = ⊥

-- an operation of it goes on, or has given the completion
abbrev pub Takes : Consumer → PollState → Step Completion PollAnswer → Type 0
Takes c state More = IsTaking c state
Takes c state (Gave completion) = is_loading state ≡ false
Takes c state (Done answer) = ⊥

stores_only : (queues : List SendView) (taken : ℕ) (empty : Option ℕ) (ends : List End) → is_loading (storing queues taken empty ends) ≡ false
stores_only queues taken empty ends = by (from_ready queues ends)
  where
    by : (xs : List End) → is_loading (storing_first taken empty xs) ≡ false
    by [] = refl
    by (x ∷ xs) = refl

abbrev Made : Consumer → PollStep → Type 0
Made c turned = Takes c turned.state turned.answer

module _ (given : ℕ) (number : ℕ) (queues : List SendView) (max : ℕ) (ends : List End) (shown : ℕ) (h : IsLoading 1 given max (length ends)) (c : Consumer) where
  end_takes : (end : End) (completion : Completion) → Takes c (with_end number queues max (record { items = ends }) shown end completion).state (with_end number queues max (record { items = ends }) shown end completion).answer
  end_takes end completion = by (nat_lt (length ends + 1) max) refl
    where
      by : (b : Bool) → nat_lt (length ends + 1) max ≡ b
          → Made c (if b then record { state = Polling max (record { items = ends ++ end ∷ [] }); answer = Gave completion; noted = None } else record { state = storing queues (length ends + 1) None (ends ++ end ∷ []); answer = Gave completion; noted = Some (poll_note number max (length ends + 1) shown) })
      by true e = let more = ltb-true (length ends + 1) max e in absurd (omega (arith, more, h.asked))
      by false e = stores_only queues (length ends + 1) None (ends ++ end ∷ [])

  taken_takes : (completion : Cqe) → Takes c (after_look number queues max (record { items = ends }) shown (Done (host.Took completion))).state (after_look number queues max (record { items = ends }) shown (Done (host.Took completion))).answer
  taken_takes completion = by (place_of queues completion)
    where
      by : (o : Option ℕ) → Takes c (with_completion number queues max (record { items = ends }) shown completion o).state (with_completion number queues max (record { items = ends }) shown completion o).answer
      by None = end_takes (record { queue = 0; end = 0 }) (completion_of completion 0)
      by (Some queue) = tt

-- Loads of the completion queue's words

module _ (place : PollPlace) (given : ℕ) (seen : ℕ) (rs : List Retirer) (max : ℕ) (ends : List End) (h : IsLoading 1 given max (length ends)) (e : BusEntry) where
  abbrev polls : Consumer → PollRule
  polls c = record { host = c; seen = seen; retirers = rs; state = Polling max (record { items = ends }) }

  abbrev Looked : Consumer → QueueMark → Consumer → Step (Unit {0}) CqDone → Type 0
  Looked c mark c' step = Takes c' (after_look place.cq.number (queues_of place (polls c)) max (record { items = ends }) (seen_by place (polls c) mark e) step).state (after_look place.cq.number (queues_of place (polls c)) max (record { items = ends }) (seen_by place (polls c) mark e) step).answer

  abbrev pub LooksOn : Consumer → QueueMark → Type 0
  LooksOn c mark = Takes (after_poll_side place (polls c) (OnHost mark) e).host (after_poll_side place (polls c) (OnHost mark) e).state (poll_side_step place (polls c) (OnHost mark) e).answer

  module _ (acked next : ℕ) where
    abbrev shown_by : Bool → PollStep
    shown_by b = after_look place.cq.number (queues_of place (polls (Waiting acked next))) max (record { items = ends }) (seen_by place (polls (Waiting acked next)) (Look next) e) (host_step e (found (if b then None else Some (ring.Empty next))))

    abbrev Begins : Bool → Type 0
    Begins b = IsTaking (if b then Reading acked next next (loaded e) [] else Waiting acked next) (shown_by b).state × ((shown_by b).answer ≡ More)

    -- a look that shows the entry owned begins it
    pub look_begins : is_owned (ring_of place.cq) next (loaded e) ≡ true
        → IsTaking (after_poll_side place (polls (Waiting acked next)) (OnHost (Look next)) e).host (after_poll_side place (polls (Waiting acked next)) (OnHost (Look next)) e).state × ((poll_side_step place (polls (Waiting acked next)) (OnHost (Look next)) e).answer ≡ More)
    look_begins owned = subst Begins (sym owned) (tt, refl)

  module _ (acked next index last : ℕ) (words : List ℕ) where
    abbrev c : Consumer
    c = Reading acked next index last words

    one_more : MayPoll place.cq c Read e → LooksOn c Read
    one_more may = by (length words == 6) may.holds
      where
        by : (b : Bool) → (if b then Some (ring.Took index (words ++ loaded e ∷ last ∷ [])) else None) ≡ None
            → Looked c Read (if b then Waiting acked (index + 1) else Reading acked next index last (words ++ loaded e ∷ [])) More
        by true none = absurd (false≢true (sym (ap is_some none)))
        by false none = tt

    last_one : (completion : Cqe) → MayPoll place.cq c (Take completion) e → LooksOn c (Take completion)
    last_one completion may = by (length words == 6) may.holds
      where
        by : (b : Bool) → TakesAs completion (if b then Some (ring.Took index (words ++ loaded e ∷ last ∷ [])) else None)
            → Looked c (Take completion) (if b then Waiting acked (index + 1) else Reading acked next index last (words ++ loaded e ∷ [])) (Done (host.Took completion))
        by true takes = taken_takes given place.cq.number (queues_of place (polls c)) max ends (seen_by place (polls c) (Take completion) e) h (Waiting acked (index + 1)) completion
        by false takes = absurd takes

    next_word : (mark : QueueMark) → IsNextOf c mark → MayPoll place.cq c mark e → LooksOn c mark
    next_word (Publish completion) next may = absurd next
    next_word Lose next may = absurd next
    next_word (Look i) next may = absurd next
    next_word Read next may = one_more may
    next_word (Take completion) next may = last_one completion may
    next_word (Acknowledge i) next may = absurd next
    next_word Foreign next may = absurd next

-- Lookups

module _ (place : PollPlace) (given : ℕ) (c : Consumer) (seen : ℕ) (rs : List Retirer) (max : ℕ) (ends : List End) (h : IsLoading 1 given max (length ends)) (completion : Cqe) (queue : ℕ) (e : BusEntry) where
  abbrev looks_up : PollState
  looks_up = LookingUp max (record { items = ends }) completion queue

  abbrev up : PollRule
  up = record { host = c; seen = seen; retirers = rs; state = looks_up }

  abbrev UpOn : ℕ → WqMark → Type 0
  UpOn index mark = Takes c (after_poll_side place up (OnQueue index mark) e).state (poll_side_step place up (OnQueue index mark) e).answer

  abbrev FoundAs : Option WqEvent → Type 0
  FoundAs event = (views : List SendView) → Takes c (after_lookup place.cq.number views max (record { items = ends }) seen completion queue (retirer_step (is_found event))).state (after_lookup place.cq.number views max (record { items = ends }) seen completion queue (retirer_step (is_found event))).answer

  finds : (counter id end : ℕ) → FoundAs (Some (Found counter id end))
  finds counter id end views = end_takes given place.cq.number views max ends seen h c (record { queue = queue; end = end }) (completion_of completion id)

  by_asked : (q : SendView) (asked : Option Asked) → q.side.asked ≡ asked → FoundAs (served q.place q.side (lookup_mark completion.counter (found_before q.side) asked) e)
  by_asked q None is = by (is_send q.place)
    where
      by : (b : Bool) → FoundAs (if b then Some (Named completion.counter (loaded e)) else Some (Found completion.counter (loaded e) (found_before q.side + 1)))
      by true = λ views. tt
      by false = finds completion.counter (loaded e) (found_before q.side + 1)
  by_asked q (Some a) is = subst (λ (o : Option Asked). FoundAs (count_says_for o e)) (sym is) (finds a.counter a.id (end_after e))

  abbrev Served : WqMark → Option SendView → Type 0
  Served mark o = Takes c (asked_with place up (queues_at place.queues (retirers_with rs queue mark e o)) mark e o).state (asked_with place up (queues_at place.queues (retirers_with rs queue mark e o)) mark e o).answer

  pub lookup_takes : (index : ℕ) (mark : WqMark) → MayLookUp place up completion queue index mark e → UpOn index mark
  lookup_takes index mark may =
      let q = may.serves.served in
      subst (λ (i : ℕ). UpOn i mark) (sym may.queue_is)
      (subst (λ (m : WqMark). UpOn queue m) (sym may.mark_is)
      (subst (Served (lookup_mark completion.counter (found_before q.side) q.side.asked)) (sym may.serves.found)
      (by_asked q q.side.asked refl (queues_at place.queues (retirers_with rs queue (lookup_mark completion.counter (found_before q.side) q.side.asked) e (Some q))))))

-- each operation of a poll that takes
pub take_goes : (place : PollPlace) (given : ℕ) (c : Consumer) (seen : ℕ) (rs : List Retirer) (e : BusEntry) (state : PollState) (mark : PollMark) → IsUnderWay 1 given state → IsTaking c state → MayGoOn state place (record { host = c; seen = seen; retirers = rs; state = state }) mark e
    → Takes (after_poll_side place (record { host = c; seen = seen; retirers = rs; state = state }) mark e).host (after_poll_side place (record { host = c; seen = seen; retirers = rs; state = state }) mark e).state (poll_side_step place (record { host = c; seen = seen; retirers = rs; state = state }) mark e).answer
take_goes place given c seen rs e Idle mark h takes may = absurd takes
take_goes place given (Waiting acked next) seen rs e (Polling max ends) mark h takes may = absurd takes
take_goes place given (Reading acked next index last words) seen rs e (Polling max ends) (OnHost mark) h takes may = next_word place given seen rs max ends.items h e acked next index last words mark may.next may.polls
take_goes place given (Reading acked next index last words) seen rs e (Polling max ends) (OnQueue index' mark) h takes may = absurd may
take_goes place given c seen rs e (LookingUp max ends completion queue) (OnHost mark) h takes may = absurd may
take_goes place given c seen rs e (LookingUp max ends completion queue) (OnQueue index mark) h takes may = lookup_takes place given c seen rs max ends.items h completion queue e index mark may
take_goes place given c seen rs e (Retiring taken empty left) mark h takes may = absurd takes
take_goes place given c seen rs e (Acking taken empty) mark h takes may = absurd takes
