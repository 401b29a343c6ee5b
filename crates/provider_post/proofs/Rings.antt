-- An operation that rings.
use Rattle.std.proofs.Common.{◌≡◌, ◌≢◌, ℕ, inl, inr, refl, sym, ap, ◌∙◌, subst, arith, Bool, true, false, cond, eqb, not, ◌&&◌, ◌||◌, List, Option, Some, None}
use Rattle.std.specs.Prelude.{is_some}
use Rattle.std.proofs.lemmas.Bool.{cases_Bool, both_ways, or_from, or_left, or_right, and_right, ne_eqb}
use Rattle.bus_core.specs.declared.operation.BusEntry.{BusEntry}
use Rattle.bus_core.specs.declared.turn.Step.{Step}
use Rattle.bus_core.specs.declared.turn.Step.TheVariants.{More, Gave, Done}
use Rattle.counted_ring.specs.declared.poster.Posted.{Posted}
use Rattle.counted_ring.specs.Place.{is_send}
use Rattle.counted_ring.specs.Queue.{WqEvent, Rang}
use Rattle.counted_ring.specs.Poster.{Poster, Stage, Ready, Ringing, at_stage, after_ring_at, ring_says_at, after_ring}
use Rattle.counted_ring.specs.PosterView.{PosterView, PosterTask, Posting, Doorbell, MayBring, brought, is_done, is_ready}
use Rattle.counted_ring.specs.Rung.{Rung, rung_of, rung_at}
use Rattle.counted_ring.specs.Turn.{task_after}
use Rattle.provider_post.specs.declared.call.Call.{Call}
use Rattle.provider_post.specs.declared.post_step.PostStep.{PostStep}
use Rattle.provider_post.specs.declared.post_step.PostStep.TheVariants as told
use Rattle.provider_post.specs.Call.{is_written, mark_at, told_of, told_at, call_after, is_last, left_after}
use Rattle.provider_post.specs.Queued.{WritesTask}
use Rattle.provider_post.specs.Side.{IsAtRest}
use Rattle.provider_post.specs.Inside.{TaskFits, IsAtCall, IsAtWork}
use Rattle.provider_post.proofs.Moves.{goes_on, ends_call, Made}

module _ (p p' : PosterView) (c : Call) (e : BusEntry) (k : IsAtCall p c) where
  -- of the ring
  module _ (written : is_written c ≡ true) (may : MayBring p.place p.side (mark_at true) e) (side : p'.side ≡ after_ring p.place p.side) (rung : p'.rung ≡ rung_at p.side.stage p.side p.rung) where
    abbrev Rings : Step (Unit {0}) Posted → Type 0
    Rings answer = Made p p' c e answer true

    is_ring : (answer : Step (Unit {0}) Posted) (ws : List ℕ) (i : ℕ) → p'.task ≡ task_after (Some Doorbell) answer → p'.task ≡ Some (Posting ws i) → ⊥
    is_ring More ws i task same = cc
    is_ring (Gave part) ws i task same = cc
    is_ring (Done a) ws i task same = cc

    ring_fits : (n : Call) (answer : Step (Unit {0}) Posted) → is_written n ≡ true → TaskFits n (task_after (Some Doorbell) answer)
    ring_fits n More all = all
    ring_fits n (Gave part) all = all
    ring_fits n (Done a) all = tt

    -- it is over where the poster is ready again
    done : (answer : Step (Unit {0}) Posted) (stage : Stage) → stage ≡ Ready → is_done answer ≡ is_ready stage → task_after (Some Doorbell) answer ≡ None
    done More stage ready is = absurd (both_ways true (sym (is ∙ ap is_ready ready)) refl)
    done (Gave part) stage ready is = absurd (both_ways true (sym (is ∙ ap is_ready ready)) refl)
    done (Done a) stage ready is = refl

    -- what is told, with the rest of it
    told_so : (answer : Step (Unit {0}) Posted) (t : PostStep) → told_at true c.recorded answer ≡ t → t ≡ told_of (brought p.place p.side (mark_at true) e) → WritesTask p.task (brought p.place p.side (mark_at true) e)
        → p'.task ≡ task_after (Some Doorbell) answer → IsAtWork p' (left_after (is_send p.place) c (call_after c t)) → Rings answer
    told_so answer t told_is event writes task work = record {
      may = may;
      side = side;
      told_is = told_is ∙ event;
      writes = writes;
      rung = rung;
      work = subst (λ (d : PostStep). IsAtWork p' (left_after (is_send p.place) c (call_after c d))) (sym told_is) work;
      task = λ ws i same. absurd (is_ring answer ws i task same);
      index = λ ws i same. absurd (is_ring answer ws i task same);
      call = λ ws i same. absurd (is_ring answer ws i task same);
    }

    -- the record
    module _ (recorded : c.recorded ≡ false) where
      abbrev next : Call
      next = call_after c told.Rang

      ready : p.side.stage ≡ Ready
      ready = k.stage.record_next written recorded

      here : p'.side ≡ at_stage p.side (cond (is_send p.place) Ringing Ready)
      here = side ∙ ap (λ (s : Stage). after_ring_at p.place p.side s) ready

      rang : p'.rung ≡ rung_of p.side
      rang = rung ∙ ap (λ (s : Stage). rung_at s p.side p.rung) ready

      -- at which the call goes on, where there is a register
      recorded_send : (answer : Step (Unit {0}) Posted) → is_send p.place ≡ true → p'.task ≡ task_after (Some Doorbell) answer → IsAtCall p' next
      recorded_send answer send task =
          let stored : p'.side ≡ at_stage p.side Ringing = here ∙ ap (λ (b : Bool). at_stage p.side (cond b Ringing Ready)) send in
          let index : p'.side.index ≡ p.side.index = ap (λ (s : Poster). s.index) stored in
          let count : p'.side.count ≡ p.side.count = ap (λ (s : Poster). s.count) stored in
          let all : rung_of p'.side ≡ p'.rung = ap rung_of stored ∙ sym rang in
          record {
            few = k.few;
            some = k.some;
            rings_some = k.rings_some;
            count_low = omega (arith, count, k.count_low);
            index_low = omega (arith, index, k.index_low);
            fits = subst (λ (t : Option PosterTask). TaskFits next t) (sym task) (ring_fits next answer written);
            stage = record { writes = λ h. absurd (both_ways (is_written c) h written); record_next = λ h f. absurd cc; register_next = λ h. ap (λ (s : Poster). s.stage) stored };
            rung = record { count = λ h. absurd cc; index = omega (arith, index, ap (λ (r : Rung). r.index) rang); none = λ h. all; all = λ h. all };
          }

      -- and with which it ends, where there is none
      recorded_receive : (answer : Step (Unit {0}) Posted) → is_send p.place ≡ false → p'.task ≡ task_after (Some Doorbell) answer → is_done answer ≡ is_ready p'.side.stage → IsAtRest p'
      recorded_receive answer receive task over =
          let stored : p'.side ≡ at_stage p.side Ready = here ∙ ap (λ (b : Bool). at_stage p.side (cond b Ringing Ready)) receive in
          let rests : p'.side.stage ≡ Ready = ap (λ (s : Poster). s.stage) stored in
          record { task = task ∙ done answer p'.side.stage rests over; stage = rests; rung = ap rung_of stored ∙ sym rang }

      some : c.accepted ≢ 0
      some none = omega (arith, none, k.rings_some written)

      work_after : (answer : Step (Unit {0}) Posted) → p'.task ≡ task_after (Some Doorbell) answer → is_done answer ≡ is_ready p'.side.stage → IsAtWork p' (left_after (is_send p.place) c next)
      work_after answer task over = elim (cases_Bool (is_send p.place)) [
        | inl send ↦
            let unregistered : (true && not (is_send p.place)) ≡ false = rw send refl in
            let more : is_last (is_send p.place) c next ≡ false = or_from (c.recorded || (true && not (is_send p.place))) (is_some c.refused && eqb c.accepted 0)
            (or_from c.recorded (true && not (is_send p.place)) recorded unregistered) (and_right (is_some c.refused) (eqb c.accepted 0) (ne_eqb c.accepted 0 some)) in
            goes_on p' (is_send p.place) c next more (recorded_send answer send task)
        | inr receive ↦
            let unregistered : (true && not (is_send p.place)) ≡ true = rw receive refl in
            let last : is_last (is_send p.place) c next ≡ true = or_left (c.recorded || (true && not (is_send p.place))) (is_some c.refused && eqb c.accepted 0) (or_right c.recorded (true && not (is_send p.place)) unregistered) in
            ends_call p' (is_send p.place) c next last (recorded_receive answer receive task over)
      ]

      at_record : (answer : Step (Unit {0}) Posted) → p'.task ≡ task_after (Some Doorbell) answer → is_done answer ≡ is_ready p'.side.stage → Rings answer
      at_record answer task over =
          let says : Some Rang ≡ brought p.place p.side (mark_at true) e = ap ring_says_at (sym ready) in
          told_so answer told.Rang (ap (λ (b : Bool). told_at true b answer) recorded) (ap told_of says) (subst (λ (v : Option WqEvent). WritesTask p.task v) says tt) task (work_after answer task over)

    -- the register, with which the call ends
    at_register : (answer : Step (Unit {0}) Posted) → c.recorded ≡ true → p'.task ≡ task_after (Some Doorbell) answer → is_done answer ≡ is_ready p'.side.stage → Rings answer
    at_register answer recorded task over =
        let ringing : p.side.stage ≡ Ringing = k.stage.register_next recorded in
        let here : p'.side ≡ at_stage p.side Ready = side ∙ ap (λ (s : Stage). after_ring_at p.place p.side s) ringing in
        let ready : p'.side.stage ≡ Ready = ap (λ (s : Poster). s.stage) here in
        let same : p'.rung ≡ p.rung = rung ∙ ap (λ (s : Stage). rung_at s p.side p.rung) ringing in
        let last : is_last (is_send p.place) c c ≡ true = or_left (c.recorded || (c.recorded && not (is_send p.place))) (is_some c.refused && eqb c.accepted 0) (or_left c.recorded (c.recorded && not (is_send p.place)) recorded) in
        let says : None ≡ brought p.place p.side (mark_at true) e = ap ring_says_at (sym ringing) in
        told_so answer told.Nothing (ap (λ (b : Bool). told_at true b answer) recorded) (ap told_of says) (subst (λ (v : Option WqEvent). WritesTask p.task v) says tt) task
        (ends_call p' (is_send p.place) c c last (record { task = task ∙ done answer p'.side.stage ready over; stage = ready; rung = ap rung_of here ∙ (k.rung.all recorded ∙ sym same) }))

    pub ring : (answer : Step (Unit {0}) Posted) → p'.task ≡ task_after (Some Doorbell) answer → is_done answer ≡ is_ready p'.side.stage → Rings answer
    ring answer task over = elim (cases_Bool c.recorded) [ inl recorded ↦ at_register answer recorded task over | inr not_yet ↦ at_record not_yet answer task over ]
