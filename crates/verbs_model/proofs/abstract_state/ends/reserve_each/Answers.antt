use Rattle.std.proofs.Common.{ℕ, ◌<◌, ◌≤◌, length, get_or, take, set, ap, ◌∙◌, subst, sym, arith, le_refl}
use Rattle.std.proofs.lemmas.List.{take_all}
use Rattle.std.proofs.lemmas.List.Elements.{All-more}
use Rattle.verbs_types.specs.declared.state.Unpolled.{Unpolled}
use Rattle.verbs_model.specs.Held.{Held}
use Rattle.verbs_model.specs.Ends.{HaveRoom, no_held}
use Rattle.verbs_model.specs.Tables.{place_of}
use Rattle.verbs_model.proofs.EndLemmas.{map-set_kept, room_after, room_at}
use Rattle.verbs_model.proofs.abstract_state.ends.reserve_each.Goals as goal

pub returns-in_err-reserve_ends-clause-unchanged :
    goal.returns-in_err-reserve_ends-clause-unchanged
returns-in_err-reserve_ends-clause-unchanged c =
    let hs = c.loop-polled.queues in
    let place = c.place_of.result in
    let read = ap (λ (h : Held). get_or hs place h) c.index-queues-place_of.is in
    map-set_kept hs place _ c.reserve_ends.new.self read c.in_err-reserve_ends.ensures.unchanged ∙ c.loop-polled.invariant.same

pub loop-polled-preserved : goal.loop-polled-preserved
loop-polled-preserved c =
    let hs = c.loop-polled.queues in
    let place = c.place_of.result in
    let taken = c.args.taken.now in
    let i = c.loop-polled.polled-index in
    let later = c.reserve_ends.new.self in
    let n = length taken in
    let made = c.in_ok-reserve_ends.ensures in
    let read = ap (λ (h : Held). get_or hs place h) c.index-queues-place_of.is in
    let placed = subst (λ (p : ℕ). p < length c.args.queues.now) (sym c.place_of.ensures) (c.requires i _ c.loop-polled-test.true) in
    let inside : place < length hs = omega (arith, c.loop-polled.auto.queues) in
    let room = room_after hs place _ later read inside n n (take i taken) c.loop-polled.invariant.room (le_refl n) (λ h. made.room) in
    let here = subst (λ p. n ≤ (get_or (set hs place later) p no_held).spare) c.place_of.ensures (room_at hs place _ later read inside n made.room) in
    record {
      same = map-set_kept hs place _ later read made.unchanged ∙ c.loop-polled.invariant.same;
      room = All-more (λ (u : Unpolled). n ≤ (get_or (set hs place later) (place_of u.completion.queue) no_held).spare) taken i _ c.loop-polled-test.true room here;
    }

pub returns-clause-room : goal.returns-clause-room
returns-clause-room c =
    let taken = c.args.taken.now in
    let all = take_all c.loop-polled.polled-index taken c.loop-polled-test.false in
    subst (HaveRoom c.loop-polled.queues (length taken)) all c.loop-polled.invariant.room
