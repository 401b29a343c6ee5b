-- An operation that writes an item.
use Rattle.std.proofs.Common.{◌≡◌, ◌≢◌, ℕ, inl, inr, refl, sym, ap, ◌∙◌, subst, arith, Bool, false, cond, eqb, not, ◌&&◌, ◌||◌, List, Option, Some, None}
use Rattle.std.specs.Prelude.{is_some, slice_index}
use Rattle.std.proofs.lemmas.Bool.{cases_Bool, both_ways, or_parts, or_from, or_right, eqb-true, eqb-false}
use Rattle.bus_core.specs.declared.operation.BusEntry.{BusEntry}
use Rattle.bus_core.specs.declared.turn.Step.{Step}
use Rattle.bus_core.specs.declared.turn.Step.TheVariants.{More, Gave, Done}
use Rattle.counted_ring.specs.declared.poster.Posted.{Posted}
use Rattle.counted_ring.specs.declared.poster.Posted.TheVariants as posted
use Rattle.counted_ring.specs.Place.{is_send}
use Rattle.counted_ring.specs.Queue.{WqEvent, Wrote, Full}
use Rattle.counted_ring.specs.Poster.{Poster, Ready, at_stage, at_tail, after_post_at, post_says_at}
use Rattle.counted_ring.specs.PosterView.{PosterView, PosterTask, Posting, MayBring, post_answer}
use Rattle.counted_ring.specs.Rung.{Rung, rung_of}
use Rattle.counted_ring.specs.Turn.{task_after}
use Rattle.counted_ring.proofs.Parts.{span_few}
use Rattle.provider_post.specs.declared.call.Call.{Call}
use Rattle.provider_post.specs.declared.post_step.PostStep.{PostStep}
use Rattle.provider_post.specs.declared.post_step.PostStep.TheVariants as told
use Rattle.provider_post.specs.Call.{is_written, mark_at, told_of, told_post, call_after, is_last, left_after}
use Rattle.provider_post.specs.Side.{IsAtRest}
use Rattle.provider_post.specs.Queued.{WritesTask}
use Rattle.provider_post.specs.Inside.{TaskFits, RungFits, IsAtCall, IsAtWork}
use Rattle.provider_post.proofs.Calls.{one_left}
use Rattle.provider_post.proofs.Moves.{Grows, Stays, Moves, moves, rung_stays, most_few, goes_on, ends_call, Made}

module _ (p p' : PosterView) (c : Call) (e : BusEntry) (k : IsAtCall p c) where
  -- of an item
  module _ (words : List ℕ) (id : ℕ) (task_is : p.task ≡ Some (Posting words id)) (left : is_written c ≡ false)
      (may : MayBring p.place p.side (mark_at false) e) (side : p'.side ≡ after_post_at p.place p.side p.side.stage e) (rung : p'.rung ≡ p.rung) where
    recorded : c.recorded ≡ false
    recorded = k.stage.writes left

    unrefused : is_some c.refused ≡ false
    unrefused = (or_parts (eqb c.accepted c.count) (is_some c.refused) left).1

    moved : (event : Option WqEvent) → event ≡ post_says_at p.place p.side p.side.stage e → Moves p.place p.side p'.side event
    moved event same = subst (λ (s : Poster). Moves p.place p.side s event) (sym side) (subst (λ (v : Option WqEvent). Moves p.place p.side (after_post_at p.place p.side p.side.stage e) v) (sym same) (moves p.place p.side p.side.stage e))

    not_last : (n : Call) → n.recorded ≡ false → is_some n.refused ≡ false → is_last (is_send p.place) c n ≡ false
    not_last n unrecorded none = rw (recorded, unrecorded, none) refl

    -- the same item goes on, or none is under way
    same_call : Stays p.side p'.side → (task : Option PosterTask) → p'.task ≡ task → TaskFits c task → IsAtCall p' c
    same_call stays task is fits =
        let count : p'.side.count ≡ p.side.count = ap (λ (r : Rung). r.count) stays in
        let index : p'.side.index ≡ p.side.index = ap (λ (r : Rung). r.index) stays in
        record {
          few = k.few;
          some = k.some;
          rings_some = k.rings_some;
          count_low = omega (arith, count, k.count_low);
          index_low = omega (arith, index, k.index_low);
          fits = subst (λ (t : Option PosterTask). TaskFits c t) (sym is) fits;
          stage = record { writes = λ h. recorded; record_next = λ h. absurd (both_ways (is_written c) left h); register_next = λ h. absurd (both_ways c.recorded recorded h) };
          rung = rung_stays c (rung_of p.side) (rung_of p'.side) p.rung p'.rung stays rung k.rung;
        }

    -- the item was written
    wrote : Grows p.place p.side p'.side words → p'.task ≡ None → IsAtCall p' (call_after c told.Wrote)
    wrote g task =
        let n : Call = call_after c told.Wrote in
        let most = most_few p.place in
        let next_few = span_few p.place (slice_index words 0) in
        let counted = k.rung.count recorded in
        record {
          few = k.few;
          some = omega (arith, one_left c left k.some);
          rings_some = λ h. omega arith;
          count_low = omega (arith, g.count, k.count_low);
          index_low = omega (arith, g.index, k.index_low, next_few, most);
          fits = subst (λ (t : Option PosterTask). TaskFits n t) (sym task) tt;
          stage = record { writes = λ h. recorded; record_next = λ h f. g.stage; register_next = λ h. absurd (both_ways c.recorded recorded h) };
          rung = subst (λ (r : Rung). RungFits n (rung_of p'.side) r) (sym rung) (record {
            count = λ h. omega (arith, counted, g.count);
            index = omega (arith, k.rung.index, g.index);
            none = λ h. absurd (omega (arith, h));
            all = λ h. absurd (both_ways c.recorded recorded h);
          });
        }

    -- the queue is full, and something is to be rung for
    full_some : (head tail : ℕ) → p'.side ≡ at_stage (at_tail p.side tail) Ready → p'.task ≡ None → c.accepted ≢ 0 → IsAtCall p' (call_after c (told.Full head tail))
    full_some head tail here task some =
        let n : Call = call_after c (told.Full head tail) in
        let stays : Stays p.side p'.side = ap rung_of here in
        let same = rung_stays c (rung_of p.side) (rung_of p'.side) p.rung p'.rung stays rung k.rung in
        let count : p'.side.count ≡ p.side.count = ap (λ (s : Poster). s.count) here in
        let index : p'.side.index ≡ p.side.index = ap (λ (s : Poster). s.index) here in
        record {
          few = k.few;
          some = k.some;
          rings_some = λ h. omega (arith, some);
          count_low = omega (arith, count, k.count_low);
          index_low = omega (arith, index, k.index_low);
          fits = subst (λ (t : Option PosterTask). TaskFits n t) (sym task) tt;
          stage = record { writes = λ h. recorded; record_next = λ h f. ap (λ (s : Poster). s.stage) here; register_next = λ h. absurd (both_ways c.recorded recorded h) };
          rung = record { count = same.count; index = same.index; none = same.none; all = same.all };
        }

    -- or nothing is
    full_none : (tail : ℕ) → p'.side ≡ at_stage (at_tail p.side tail) Ready → p'.task ≡ None → c.accepted ≡ 0 → IsAtRest p'
    full_none tail here task none = record { task = task; stage = ap (λ (s : Poster). s.stage) here; rung = ap rung_of here ∙ (k.rung.none none ∙ sym rung) }

    full : (head tail : ℕ) → p'.side ≡ at_stage (at_tail p.side tail) Ready → p'.task ≡ None → IsAtWork p' (left_after (is_send p.place) c (call_after c (told.Full head tail)))
    full head tail here task =
        let n : Call = call_after c (told.Full head tail) in
        let quiet : (c.recorded || (n.recorded && not (is_send p.place))) ≡ false = rw recorded refl in
        elim (cases_Bool (eqb c.accepted 0)) [
          | inl none ↦ ends_call p' (is_send p.place) c n (or_right (c.recorded || (n.recorded && not (is_send p.place))) (eqb c.accepted 0) none) (full_none tail here task (eqb-true c.accepted 0 none))
          | inr some ↦ goes_on p' (is_send p.place) c n (or_from (c.recorded || (n.recorded && not (is_send p.place))) (eqb c.accepted 0) quiet some) (full_some head tail here task (eqb-false c.accepted 0 some))
        ]

    abbrev Posts : Step (Unit {0}) Posted → Type 0
    Posts answer = Made p p' c e answer false

    -- nothing is told
    quiet : (answer : Step (Unit {0}) Posted) (task : Option PosterTask) → told_post answer ≡ told.Nothing → None ≡ post_says_at p.place p.side p.side.stage e → p'.task ≡ task → TaskFits c task
        → ((ws : List ℕ) (i : ℕ) → task ≡ Some (Posting ws i) → p.task ≡ Some (Posting ws i)) → Posts answer
    quiet answer task nothing says is fits kept =
        let stays = moved None says in
        let more : is_last (is_send p.place) c c ≡ false = not_last c recorded unrefused in
        record {
          may = may;
          side = side;
          told_is = nothing ∙ ap told_of says;
          writes = subst (λ (v : Option WqEvent). WritesTask p.task v) says tt;
          rung = rung;
          work = subst (λ (t : PostStep). IsAtWork p' (left_after (is_send p.place) c (call_after c t))) (sym nothing) (goes_on p' (is_send p.place) c c more (same_call stays task is fits));
          task = λ ws i same. kept ws i (sym is ∙ same);
          index = λ ws i same. ap (λ (r : Rung). r.index) stays;
          call = λ ws i same. subst (λ (t : PostStep). left_after (is_send p.place) c (call_after c t) ≡ Some c) (sym nothing) (ap (λ (b : Bool). cond b None (Some c)) more);
        }

    -- no item is under way
    not_posting : (ws : List ℕ) (i : ℕ) → p'.task ≡ None → p'.task ≡ Some (Posting ws i) → ⊥
    not_posting ws i none some = cc

    pub post : (answer : Step (Unit {0}) Posted) → p'.task ≡ task_after (Some (Posting words id)) answer → post_answer words id answer ≡ post_says_at p.place p.side p.side.stage e → Posts answer
    post More task says = quiet More (Some (Posting words id)) refl says task left (λ ws i same. task_is ∙ same)
    post (Gave part) task says = quiet (Gave part) (Some (Posting words id)) refl says task left (λ ws i same. task_is ∙ same)
    post (Done posted.Rung) task says = quiet (Done posted.Rung) None refl says task tt (λ ws i same. absurd cc)
    post (Done posted.Wrote) task says =
        let g = moved (Some (Wrote words id)) says in
        let n : Call = call_after c told.Wrote in
        record {
          may = may;
          side = side;
          told_is = ap told_of says;
          writes = subst (λ (v : Option WqEvent). WritesTask p.task v) says task_is;
          rung = rung;
          work = goes_on p' (is_send p.place) c n (not_last n recorded unrefused) (wrote g task);
          task = λ ws i same. absurd (not_posting ws i task same);
          index = λ ws i same. absurd (not_posting ws i task same);
          call = λ ws i same. absurd (not_posting ws i task same);
        }
    post (Done (posted.Full head tail)) task says =
        let here = moved (Some (Full head tail)) says in
        record {
          may = may;
          side = side;
          told_is = ap told_of says;
          writes = subst (λ (v : Option WqEvent). WritesTask p.task v) says tt;
          rung = rung;
          work = full head tail here task;
          task = λ ws i same. absurd (not_posting ws i task same);
          index = λ ws i same. absurd (not_posting ws i task same);
          call = λ ws i same. absurd (not_posting ws i task same);
        }
