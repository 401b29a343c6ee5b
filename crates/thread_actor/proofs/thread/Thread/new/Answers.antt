use Rattle.std.proofs.Common.{refl, subst, List}
use Rattle.std.specs.List.{AllByRecursion}
use Rattle.verbs_types.specs.declared.call.Call.{Call}
use Rattle.thread_actor.specs.Inside.{sides_of}
use Rattle.thread_actor.specs.Stands.{HasSide}
use Rattle.thread_actor.proofs.Starting.{is_fresh, is_thread}
use Rattle.thread_actor.proofs.thread.Thread.new.Goals as goal

pub returns-clause-fresh : goal.returns-clause-fresh
returns-clause-fresh c = is_fresh c.args.d.now c.args.number c.args.calls _ (record {
  lines = c.of.ensures;
  number_is = refl;
  program = c.calls.view_is;
  progress = c.start.ensures;
  given = c.in_ok-none.ensures;
  ended = refl;
  are_new = c.in_ok-sides.ensures.fresh;
})

pub returns-clause-stands : goal.returns-clause-stands
returns-clause-stands c = is_thread c.args.d.now c.args.number c.args.calls _ (record {
  lines = c.of.ensures;
  number_is = refl;
  program = c.calls.view_is;
  progress = c.start.ensures;
  given = c.in_ok-none.ensures;
  ended = refl;
  are_new = c.in_ok-sides.ensures.fresh;
}) c.requires.run (subst (λ (calls : List Call). AllByRecursion (HasSide (sides_of c.in_ok-sides.sides)) calls) c.as_slice.ensures c.in_ok-sides.ensures.has)
