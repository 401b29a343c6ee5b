use Rattle.std.proofs.Common.{◌≡◌, ℕ, ◌<◌, ◌+◌, ◌≤◌, refl, List, length, slice_get, Some, arith}
use Rattle.std.proofs.lemmas.Option.{slice_get_read, slice_get_within}
use Rattle.verbs_types.specs.declared.call.Call.{Call}
use Rattle.thread_actor.specs.Inside.{sides_of}
use Rattle.thread_actor.specs.Stands.{HasSide}
use Rattle.thread_actor.proofs.Adding.{has_more, each_from}
use Rattle.thread_actor.proofs.Resting.{each_at}
use Rattle.thread_actor.proofs.sides.Sides.new.Goals as goal

pub loop-call-preserved : goal.loop-call-preserved
loop-call-preserved c = record {
  are_new = c.in_ok-add.ensures.are_new;
  has = has_more (sides_of c.loop-call.sides) (sides_of c.add.new.self) c.args.calls.now c.loop-call.call-index c.call-item.result
      (slice_get_read c.args.calls.now (length c.args.calls.now) c.loop-call.call-index c.call-item.result refl (omega arith) c.call-item.is) c.in_ok-add.ensures.kept c.in_ok-add.ensures.has c.loop-call.invariant.has;
}

pub returns-clause-has : goal.returns-clause-has
returns-clause-has c =
    each_from (HasSide (sides_of c.loop-call.sides)) c.args.calls.now (λ k call found. let low = slice_get_within c.args.calls.now k call found in c.loop-call.invariant.has k call (omega (arith, low)) found)
