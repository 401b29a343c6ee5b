-- A turn of the ring's consumer, as a turn of the queue's host.
use Rattle.std.proofs.Common.{◌≡◌, ℕ, ◌<◌, ◌++◌, refl, ap, sym, ◌∙◌, subst, arith, Bool, true, false, cond, eqb, List, [], ◌∷◌, length, Option, Some, None}
use Rattle.bus_core.specs.declared.operation.BusEntry.{BusEntry}
use Rattle.bus_core.specs.declared.turn.Step.{Step}
use Rattle.bus_core.specs.declared.turn.Step.TheVariants.{More, Gave, Done}
use Rattle.bus_core.specs.Operation.{loaded}
use Rattle.cqe_format.specs.declared.completion.Cqe.{Cqe}
use Rattle.owner_ring.specs.declared.place.RingPlace.{RingPlace}
use Rattle.owner_ring.specs.declared.consumer.Taken.{Taken}
use Rattle.owner_ring.specs.declared.consumer.Taken.TheVariants as ring_answers
use Rattle.owner_ring.specs.Ring.{RingEvent}
use Rattle.owner_ring.specs.Ring as ring
use Rattle.owner_ring.specs.Place.{is_owned}
use Rattle.owner_ring.specs.Consumer.{Consumer, Waiting, Reading}
use Rattle.owner_ring.specs.ConsumerView.{ConsumerView, ConsumerTurn, Task}
use Rattle.owner_ring.specs.ConsumerView as ring_side
use Rattle.owner_ring.specs.Turn.{task_after}
use Rattle.cq_pair.specs.declared.place.CqPlace.{CqPlace}
use Rattle.cq_pair.specs.declared.host.CqDone.{CqDone}
use Rattle.cq_pair.specs.declared.host.CqDone.TheVariants as answers
use Rattle.cq_pair.specs.Place.{ring_of}
use Rattle.cq_pair.specs.Host.{IsReadAs, TakesAs, found}
use Rattle.cq_pair.specs.HostView.{HostTurn, turns_left}
use Rattle.cq_pair.specs.HostInside.{host_task, host_with, IsAnswerTo}

abbrev empty_word : Step (Unit {0}) CqDone → ℕ
empty_word (Done (answers.Empty index word)) = word
empty_word _ = 0

read_is_no_look : (full : Bool) (i j : ℕ) (vs : List ℕ) → Some (ring.Empty i) ≡ cond full (Some (ring.Took j vs)) None → ⊥
read_is_no_look true i j vs h = cc
read_is_no_look false i j vs h = cc

read_is_no_store : (full : Bool) (i j : ℕ) (vs : List ℕ) → Some (ring.Acked i) ≡ cond full (Some (ring.Took j vs)) None → ⊥
read_is_no_store true i j vs h = cc
read_is_no_store false i j vs h = cc

look_is_no_take : (owned : Bool) (i j : ℕ) (ws : List ℕ) → Some (ring.Took i ws) ≡ cond owned None (Some (ring.Empty j)) → ⊥
look_is_no_take true i j ws h = cc
look_is_no_take false i j ws h = cc

look_is_no_store : (owned : Bool) (i j : ℕ) → Some (ring.Acked i) ≡ cond owned None (Some (ring.Empty j)) → ⊥
look_is_no_store true i j h = cc
look_is_no_store false i j h = cc

same_turns : (task : Option Task) (side : Consumer) → ring_side.turns_left task side ≡ turns_left (host_task task) side
same_turns None side = refl
same_turns (Some ring_side.Take) (Waiting acked next) = refl
same_turns (Some ring_side.Take) (Reading acked next i last ws) = refl
same_turns (Some (ring_side.Acknowledgement above)) side = refl

module _ (place : CqPlace) (seen : ℕ) (new : ConsumerView) (e : BusEntry) where
  abbrev old : Consumer → Option Task → ConsumerView
  old side task = record { place = ring_of place; side = side; task = task; seen = seen }

  abbrev Turns : Consumer → Option Task → Step (Unit {0}) Taken → Step (Unit {0}) CqDone → Type 0
  Turns side task taken answer = ConsumerTurn (old side task) new e taken → HostTurn (host_with place (old side task)) (host_with place new) e answer

  -- what is left of the task, and of its turns
  left : (side : Consumer) (task : Option Task) (taken : Step (Unit {0}) Taken) → ConsumerTurn (old side task) new e taken → host_task new.task ≡ host_task (task_after task (ring_side.answer_says taken))
  left side task taken t = ap host_task (t.task ∙ ap (task_after task) (sym t.says))

  fewer : (side : Consumer) (task : Option Task) (taken : Step (Unit {0}) Taken) → ConsumerTurn (old side task) new e taken → turns_left (host_task new.task) new.side < turns_left (host_task task) side
  fewer side task taken t = omega (arith, t.fewer, same_turns new.task new.side, same_turns task side)

  reads_on : (acked next i last : ℕ) (ws : List ℕ) (taken : Step (Unit {0}) Taken) → ring_side.answer_says taken ≡ None → Turns (Reading acked next i last ws) (Some ring_side.Take) taken More
  reads_on acked next i last ws taken none t = record {
    may = record { ring = t.may; holds = sym t.says ∙ none };
    inside = t.inside;
    side = t.side;
    says = refl;
    word = λ i w h. absurd cc;
    task = left (Reading acked next i last ws) (Some ring_side.Take) taken t ∙ ap (λ said. host_task (task_after (Some ring_side.Take) said)) none;
    fewer = fewer (Reading acked next i last ws) (Some ring_side.Take) taken t;
    seen = t.seen;
    place = refl;
  }

  takes : (acked next i last j : ℕ) (ws words : List ℕ) (completion : Cqe) → IsReadAs words completion → Turns (Reading acked next i last ws) (Some ring_side.Take) (Done (ring_answers.Entry j words)) (Done (answers.Took completion))
  takes acked next i last j ws words completion d t =
      record {
        may = record { ring = t.may; holds = subst (TakesAs completion) t.says d };
        inside = t.inside;
        side = t.side;
        says = refl;
        word = λ i w h. absurd cc;
        task = left (Reading acked next i last ws) (Some ring_side.Take) (Done (ring_answers.Entry j words)) t;
        fewer = fewer (Reading acked next i last ws) (Some ring_side.Take) (Done (ring_answers.Entry j words)) t;
        seen = t.seen;
        place = refl;
      }

  looks_on : (acked next : ℕ) (taken : Step (Unit {0}) Taken) → ring_side.answer_says taken ≡ None → Turns (Waiting acked next) (Some ring_side.Take) taken More
  looks_on acked next taken none t = record {
    may = record { ring = t.may; holds = tt };
    inside = t.inside;
    side = t.side;
    says = ap found (sym none ∙ t.says);
    word = λ i w h. absurd cc;
    task = left (Waiting acked next) (Some ring_side.Take) taken t ∙ ap (λ said. host_task (task_after (Some ring_side.Take) said)) none;
    fewer = fewer (Waiting acked next) (Some ring_side.Take) taken t;
    seen = t.seen;
    place = refl;
  }

  finds_none : (acked next j word : ℕ) → Turns (Waiting acked next) (Some ring_side.Take) (Done (ring_answers.Empty j word)) (Done (answers.Empty j word))
  finds_none acked next j word t = record {
    may = record { ring = t.may; holds = tt };
    inside = t.inside;
    side = t.side;
    says = ap found t.says;
    word = λ i w h. sym (ap empty_word h) ∙ t.word j word refl;
    task = left (Waiting acked next) (Some ring_side.Take) (Done (ring_answers.Empty j word)) t;
    fewer = fewer (Waiting acked next) (Some ring_side.Take) (Done (ring_answers.Empty j word)) t;
    seen = t.seen;
    place = refl;
  }

  stores : (side : Consumer) (above ci : ℕ) → Turns side (Some (ring_side.Acknowledgement above)) (Done (ring_answers.Acked ci)) (Done (answers.Acked ci))
  stores side above ci t = record {
    may = record { ring = t.may; holds = tt };
    inside = t.inside;
    side = t.side;
    says = ap found t.says;
    word = λ i w h. absurd cc;
    task = left side (Some (ring_side.Acknowledgement above)) (Done (ring_answers.Acked ci)) t;
    fewer = fewer side (Some (ring_side.Acknowledgement above)) (Done (ring_answers.Acked ci)) t;
    seen = t.seen;
    place = refl;
  }

  abbrev Answers : Consumer → Option Task → Step (Unit {0}) Taken → Step (Unit {0}) CqDone → Type 0
  Answers side task taken answer = IsAnswerTo taken answer → Turns side task taken answer

  abbrev With : Consumer → Option Task → Step (Unit {0}) CqDone → Type 0
  With side task answer = HostTurn (host_with place (old side task)) (host_with place new) e answer

  reads : (acked next i last : ℕ) (ws : List ℕ) (taken : Step (Unit {0}) Taken) (answer : Step (Unit {0}) CqDone) → Answers (Reading acked next i last ws) (Some ring_side.Take) taken answer
  reads acked next i last ws More answer is t = subst (With (Reading acked next i last ws) (Some ring_side.Take)) (sym is) (reads_on acked next i last ws More refl t)
  reads acked next i last ws (Gave part) answer is t = subst (With (Reading acked next i last ws) (Some ring_side.Take)) (sym is) (reads_on acked next i last ws (Gave part) refl t)
  reads acked next i last ws (Done (ring_answers.Entry j words)) answer is t = subst (With (Reading acked next i last ws) (Some ring_side.Take)) (sym is.2) (takes acked next i last j ws words is.0 is.1 t)
  reads acked next i last ws (Done (ring_answers.Empty j word)) answer is t = absurd (read_is_no_look (eqb (length ws) 6) j i (ws ++ loaded e ∷ last ∷ []) t.says)
  reads acked next i last ws (Done (ring_answers.Acked ci)) answer is t = absurd (read_is_no_store (eqb (length ws) 6) ci i (ws ++ loaded e ∷ last ∷ []) t.says)

  looks : (acked next : ℕ) (taken : Step (Unit {0}) Taken) (answer : Step (Unit {0}) CqDone) → Answers (Waiting acked next) (Some ring_side.Take) taken answer
  looks acked next More answer is t = subst (With (Waiting acked next) (Some ring_side.Take)) (sym is) (looks_on acked next More refl t)
  looks acked next (Gave part) answer is t = subst (With (Waiting acked next) (Some ring_side.Take)) (sym is) (looks_on acked next (Gave part) refl t)
  looks acked next (Done (ring_answers.Entry j words)) answer is t = absurd (look_is_no_take (is_owned (ring_of place) next (loaded e)) j next words t.says)
  looks acked next (Done (ring_answers.Empty j word)) answer is t = subst (With (Waiting acked next) (Some ring_side.Take)) (sym is) (finds_none acked next j word t)
  looks acked next (Done (ring_answers.Acked ci)) answer is t = absurd (look_is_no_store (is_owned (ring_of place) next (loaded e)) ci next t.says)

  acknowledges : (side : Consumer) (above : ℕ) (taken : Step (Unit {0}) Taken) (answer : Step (Unit {0}) CqDone) → Answers side (Some (ring_side.Acknowledgement above)) taken answer
  acknowledges side above More answer is t = absurd (let h = t.says in cc)
  acknowledges side above (Gave part) answer is t = absurd (let h = t.says in cc)
  acknowledges side above (Done (ring_answers.Entry j words)) answer is t = absurd (let h = t.says in cc)
  acknowledges side above (Done (ring_answers.Empty j word)) answer is t = absurd (let h = t.says in cc)
  acknowledges side above (Done (ring_answers.Acked ci)) answer is t = subst (With side (Some (ring_side.Acknowledgement above))) (sym is) (stores side above ci t)

  turned_at : (side : Consumer) (task : Option Task) (taken : Step (Unit {0}) Taken) (answer : Step (Unit {0}) CqDone) → Answers side task taken answer
  turned_at side None taken answer is t = absurd t.may
  turned_at (Waiting acked next) (Some ring_side.Take) taken answer is t = looks acked next taken answer is t
  turned_at (Reading acked next i last ws) (Some ring_side.Take) taken answer is t = reads acked next i last ws taken answer is t
  turned_at side (Some (ring_side.Acknowledgement above)) taken answer is t = acknowledges side above taken answer is t

pub turned : (place : CqPlace) (c new : ConsumerView) (e : BusEntry) (taken : Step (Unit {0}) Taken) (answer : Step (Unit {0}) CqDone) → c.place ≡ ring_of place → IsAnswerTo taken answer → ConsumerTurn c new e taken → HostTurn (host_with place c) (host_with place new) e answer
turned place c new e taken answer same is t =
    turned_at place c.seen new e c.side c.task taken answer is (subst (λ (p : RingPlace). ConsumerTurn (record { place = p; side = c.side; task = c.task; seen = c.seen }) new e taken) same t)
