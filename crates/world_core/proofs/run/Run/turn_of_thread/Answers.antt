-- The thread has ended and rests, or it has not and makes its next operation.
use Rattle.std.proofs.Common.{◌≡◌, ◌∙◌, ℕ, suc, ◌+◌, arith, inr, sym, ap, List, slice_get}
use Rattle.thread_actor.specs.View.{ThreadView}
use Rattle.world_core.specs.Log.{LogView, with_turn}
use Rattle.world_core.specs.RunInside.{run_view}
use Rattle.world_core.proofs.Ready.{same_thread}
use Rattle.world_core.proofs.run.Run.turn_of_thread.Goals as goal

pub overflow_add-place : goal.overflow_add-place
overflow_add-place c = omega (arith, c.requires.actor_is, c.requires.few)

pub operation_of_thread-requires-clause-going : goal.operation_of_thread-requires-clause-going
operation_of_thread-requires-clause-going c thread there =
    let found = ap (λ (threads : List ThreadView). slice_get threads c.args.place) (sym c.as_slice.ensures.value) ∙ c.has_ended.ensures.1 in
    ap (λ (view : ThreadView). view.ended) (same_thread c.args.self.now.threads.items c.args.place thread c.has_ended.ensures.0 there found) ∙ sym c.has_ended.ensures.2 ∙ c.if-has_ended.false

pub returns-then-has_ended : goal.returns-then-has_ended
returns-then-has_ended c =
    let found = ap (λ (threads : List ThreadView). slice_get threads c.args.place) (sym c.as_slice.ensures.value) ∙ c.has_ended.ensures.1 in
    let next : c.args.place + 1 ≡ suc c.args.place = omega arith in
    inr (record { thread = c.has_ended.ensures.0; found = found; ended = sym c.has_ended.ensures.2 ∙ c.if-has_ended.true; new_is = ap (λ (log : LogView). record (run_view c.args.self.now) { turns = log.turns; marks = log.marks; notes = log.notes; capacity = log.capacity }) c.pass.ensures ∙ ap (λ (actor : ℕ). record (run_view c.args.self.now) { turns = with_turn c.args.self.now.log.turns actor }) next })
