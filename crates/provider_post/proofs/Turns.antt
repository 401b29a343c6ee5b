-- An operation of a call, by the poster's.
use Rattle.std.proofs.Common.{◌≡◌, ◌<◌, inl, inr, refl, sym, ap, ◌∙◌, subst, Bool, true, cond, Option, Some, None}
use Rattle.std.proofs.lemmas.Bool.{cases_Bool}
use Rattle.bus_core.specs.declared.operation.BusEntry.{BusEntry}
use Rattle.bus_core.specs.declared.turn.Note.{Note}
use Rattle.bus_core.specs.declared.turn.Step.{Step}
use Rattle.verbs_types.specs.declared.completion.Queue.{Queue}
use Rattle.counted_ring.specs.declared.place.WqPlace.{WqPlace}
use Rattle.counted_ring.specs.declared.poster.Posted.{Posted}
use Rattle.counted_ring.specs.Place.{is_send, touches}
use Rattle.counted_ring.specs.Poster.{Poster}
use Rattle.counted_ring.specs.PosterView.{PosterView, PosterTurn, PosterTask, Posting, Doorbell, brought, turns_left}
use Rattle.provider_post.specs.declared.call.Call.{Call}
use Rattle.provider_post.specs.declared.post_step.PostStep.{PostStep}
use Rattle.provider_post.specs.Call.{is_written, mark_of, told_of, told_by, call_after, left_after, answer_with}
use Rattle.provider_post.specs.Note.{note_of}
use Rattle.provider_post.specs.Queued.{has_register, IsQueuePlace, next_in, QueueTurn, ring_task, IsRung}
use Rattle.provider_post.specs.Inside.{TaskFits, IsAtCall, IsAtWork, IsSide}
use Rattle.provider_post.specs.Left.{left_of, post_left}
use Rattle.provider_post.specs.Rule.{post_side_poster, post_side_call}
use Rattle.provider_post.proofs.Left.{IsPosting, Falls, turn_falls, post_goes, fewer}
use Rattle.provider_post.proofs.Moves.{at_rest, Made}
use Rattle.provider_post.proofs.Posts.{post}
use Rattle.provider_post.proofs.Rings.{ring}

module _ (p p' : PosterView) (c : Call) (e : BusEntry) (k : IsAtCall p c) where
  -- of either
  abbrev Before : Option PosterTask → PosterView
  Before task = record { place = p.place; side = p.side; rung = p.rung; task = task }

  by_task : (answer : Step (Unit {0}) Posted) (task : Option PosterTask) → p.task ≡ task → TaskFits c task → next_in task (Some c) ≡ None → PosterTurn (Before (ring_task task)) p' e answer → Made p p' c e answer (is_written c)
  by_task answer None is fits begun t = elim (cases_Bool (is_written c)) [
    | inl written ↦ subst (Made p p' c e answer) (sym written) (ring p p' c e k written t.may t.side t.rung answer t.task t.done)
    | inr left ↦ absurd (let more : cond (is_written c) None (Some c.accepted) ≡ Some c.accepted = rw left refl in let none : None ≡ Some c.accepted = sym begun ∙ more in cc)
  ]
  by_task answer (Some (Posting words id)) is fits begun t = subst (Made p p' c e answer) (sym fits) (post p p' c e k words id is fits t.may t.side t.rung answer t.task t.says)
  by_task answer (Some Doorbell) is fits begun t = subst (Made p p' c e answer) (sym fits) (ring p p' c e k fits t.may t.side t.rung answer t.task t.done)

-- what the functions give that a turn calls
pub record Gives (p' : PosterView) (queue : Queue) (c : Call) (answer : Step (Unit {0}) Posted) (told : PostStep) (next : Call) (left : Option Call) (noted : Option Note) : Type 0 where
  pub told_is : told ≡ told_by c answer
  pub next_is : next ≡ call_after c told
  pub left_is : left ≡ left_after (has_register queue) c next
  pub noted_is : noted ≡ note_of queue c told p'.side.seen

-- the turn, and the side after it
pub record PollStep (p p' : PosterView) (queue : Queue) (before : Option Note) (c next : Call) (e : BusEntry) (left : Option Call) (noted : Option Note) : Type 0 where
  pub turn : QueueTurn (record { poster = p; queue = queue; call = Some c; noted = before }) (record { poster = p'; queue = queue; call = left; noted = noted }) e (answer_with left next)
  pub side : IsSide p' queue left

pub turned : (p p1 p' : PosterView) (queue : Queue) (before : Option Note) (c : Call) (e : BusEntry) (answer : Step (Unit {0}) Posted) (told : PostStep) (next : Call) (left : Option Call) (noted : Option Note)
    → IsSide p queue (Some c) → next_in p.task (Some c) ≡ None → IsRung p p1 → PosterTurn p1 p' e answer → Gives p' queue c answer told next left noted → PollStep p p' queue before c next e left noted
turned p p1 p' queue before c e answer told next left noted s begun rings t g =
    let place_is : p'.place ≡ p.place = t.place ∙ ap (λ (q : PosterView). q.place) rings in
    let inside : touches p.place e.addr ≡ true = subst (λ (pl : WqPlace). touches pl e.addr ≡ true) (ap (λ (q : PosterView). q.place) rings) t.inside in
    let turn = subst (λ (q : PosterView). PosterTurn q p' e answer) rings t in
    let m = by_task p p' c e s.work answer p.task refl s.work.fits begun turn in
    let next_is : next ≡ call_after c (told_by c answer) = g.next_is ∙ ap (call_after c) g.told_is in
    let register : has_register queue ≡ is_send p.place = sym s.place.register in
    let left_is : left ≡ left_after (is_send p.place) c (call_after c (told_by c answer)) = g.left_is ∙ (ap (λ (b : Bool). left_after b c next) register ∙ ap (left_after (is_send p.place) c) next_is) in
    let event = told_of (brought p.place p.side (mark_of c) e) in
    let next_by : next ≡ call_after c event = next_is ∙ ap (call_after c) m.told_is in
    let left_by : left ≡ left_after (is_send p.place) c (call_after c event) = left_is ∙ ap (λ (d : PostStep). left_after (is_send p.place) c (call_after c d)) m.told_is in
    let falls : Falls p.side.stage p'.side.stage = turn_falls p.side.stage p'.side.stage (ring_task p.task) answer turn.done (subst (λ (o : Option PosterTask). turns_left o p'.side.stage < turns_left (ring_task p.task) p.side.stage) turn.task turn.fewer) in
    let has : IsPosting c.count c = record { count = refl; some = s.work.some } in
    let goes = post_goes p.place c.count p.side c e has (subst (λ (q : Poster). Falls p.side.stage q.stage) m.side falls) m.may in
    let fewer_turns : left_of p'.side.stage left < post_left p.side.stage c = coe 1 0 (i. left_of (m.side i).stage (left_by i) < post_left p.side.stage c) (fewer c.count p.side.stage (post_side_poster p.place (record { poster = p.side; call = c }) e).stage c (post_side_call p.place (record { poster = p.side; call = c }) e) has goes) in
    let work : IsAtWork p' left = subst (λ (o : Option Call). IsAtWork p' o) (sym left_is) m.work in
    record {
      turn = record {
        brings = m.may;
        inside = inside;
        side = m.side;
        writes = m.writes;
        call = left_by;
        answer_is = ap (λ (o : Option Call). answer_with o next) left_by ∙ ap (λ (n : Call). answer_with (left_after (is_send p.place) c (call_after c event)) n) next_by;
        noted = g.noted_is ∙ ap (λ (d : PostStep). note_of queue c d p'.side.seen) (g.told_is ∙ m.told_is);
        rung = m.rung;
        fewer = fewer_turns;
        rest = λ none. at_rest p' left work none;
        few = s.work.some;
        goes_on = λ words id same. record { task = m.task words id same; index = m.index words id same; call = left_is ∙ m.call words id same };
        place = place_is;
        queue = refl;
      };
      side = record { place = subst (λ (pl : WqPlace). IsQueuePlace pl queue) (sym place_is) s.place; work = work };
    }
