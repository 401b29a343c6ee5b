-- The thread is there, has not ended, and its words are on the bus.
use Rattle.std.proofs.Common.{arith, sym, subst, List}
use Rattle.bus_core.specs.Plain.{Plain}
use Rattle.thread_actor.specs.View.{ThreadView}
use Rattle.world_core.specs.Run.{CanOperate}
use Rattle.world_core.specs.RunInside.{run_view}
use Rattle.world_core.proofs.Ready.{can_operate}
use Rattle.world_core.proofs.run.Run.operation_of_thread.Goals as goal

pub overflow_add-actor : goal.overflow_add-actor
overflow_add-actor c = omega (arith, c.requires.can.actor_is, c.requires.can.few)

pub operation_at-note-requires : goal.operation_at-note-requires
operation_at-note-requires c = record {
  can = subst (λ (threads : List ThreadView). CanOperate threads c.args.place c.set_actor.new.self) (sym c.as_mut_slice.ensures.value)
      (subst (λ (bus : Plain). CanOperate c.args.self.now.threads.items c.args.place bus) (sym c.set_actor.ensures)
      (can_operate (run_view c.args.self.now) c.args.place _ c.requires.can c.requires.going));
}
