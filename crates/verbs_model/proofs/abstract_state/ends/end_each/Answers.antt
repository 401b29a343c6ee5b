use Rattle.std.proofs.Common.{ℕ, ◌+◌, ◌-◌, ◌<◌, length, get_or, drop, ap, ◌∙◌, subst, sym, arith}
use Rattle.verbs_model.specs.Held.{Held}
use Rattle.verbs_model.proofs.EndLemmas.{room_after, room_rest, ended_more}
use Rattle.verbs_model.proofs.abstract_state.ends.end_each.Goals as goal

pub loop-polled-preserved : goal.loop-polled-preserved
loop-polled-preserved c =
    let hs = c.loop-polled.queues in
    let place = c.place_of.result in
    let taken = c.args.taken.now in
    let i = c.loop-polled.polled-index in
    let later = c.end.new.self in
    let n = length taken - i in
    let read = ap (λ (h : Held). get_or hs place h) c.index-queues-place_of.is in
    let placed = subst (λ (p : ℕ). p < length c.args.queues.now) (sym c.place_of.ensures) (c.requires.placed i _ c.loop-polled-test.true) in
    let inside : place < length hs = omega (arith, c.loop-polled.auto.queues) in
    record {
      left = ended_more hs place _ later read inside taken i _ c.loop-polled-test.true c.place_of.ensures c.end.ensures.queue ∙ c.loop-polled.invariant.left;
      room = room_after hs place _ later read inside n (length taken - (i + 1)) (drop (i + 1) taken) (room_rest hs n taken i c.loop-polled.invariant.room) (omega arith)
          (λ h. let spare = c.end.ensures.spare in omega arith);
    }
