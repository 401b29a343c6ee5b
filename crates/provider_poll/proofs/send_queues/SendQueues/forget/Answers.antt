use Rattle.std.proofs.Common.{◌≡◌, ◌∙◌, ap, sym, subst, map}
use Rattle.std.specs.Vec.{with_items}
use Rattle.std.proofs.lemmas.List.{with_items_is}
use Rattle.provider_poll.specs.SendQueue.{forgotten_queue}
use Rattle.provider_poll.specs.SendQueues.{HasEachPlace}
use Rattle.provider_poll.proofs.EachPlace.{all_forget}
use Rattle.provider_poll.proofs.send_queues.SendQueues.forget.Goals as goal

pub invariant_of-self : goal.invariant_of-self
invariant_of-self c =
    let old = c.self.inside.queues in
    let new = c.forget_each.new.queues in
    let written : (with_items old new).items ≡ map forgotten_queue old.items = with_items_is old new (c.forget_each.auto.queues ∙ c.as_mut_slice.ensures.len) ∙ c.forget_each.ensures ∙ ap (map forgotten_queue) c.as_mut_slice.ensures.value in
    record { places = subst (HasEachPlace c.self.inside.places.items) (sym written) (all_forget c.self.inside.places.items old.items c.self.invariant.places) }
