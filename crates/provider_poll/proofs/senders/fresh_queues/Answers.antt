use Rattle.std.proofs.Common.{◌∙◌, ◌++◌, ◌+◌, ◌∷◌, [], ap, sym, subst, ℕ, List, Option, length, length-append}
use Rattle.verbs_types.specs.declared.declaration.TheConstants.{FIRST_QP}
use Rattle.provider_poll.specs.SendQueue.{SendView}
use Rattle.provider_poll.specs.SendQueues.{HasEachPlace}
use Rattle.provider_poll.specs.Fresh.{next_place}
use Rattle.provider_poll.proofs.Fresh.{one_more, next_one, places_more}
use Rattle.provider_poll.proofs.senders.fresh_queues.Goals as goal

pub loop-pair-preserved : goal.loop-pair-preserved
loop-pair-preserved c =
    let d = c.args.d.now in
    let cq = c.args.object in
    let pair = c.loop-pair.pair in
    let before = c.loop-pair.invariant in
    let queues = c.loop-pair.queues.items in
    let places = c.loop-pair.places.items in
    let next = next_place d cq (FIRST_QP + pair) (length queues) in
    let grown = c.in_ok-add_place.ensures ∙ ap (λ (place : Option ℕ). places ++ place ∷ []) (c.next_place-place.ensures ∙ ap (next_place d cq (FIRST_QP + pair)) (c.len.ensures ∙ c.loop-pair.queues.ok.0)) in
    let long = length-append places (next ∷ []) in
    let count = before.place_each in
    record {
      queues_are = c.in_ok-add.ensures ∙ ap (λ (qs : List SendView). qs ++ next_one d cq (FIRST_QP + pair)) before.queues_are ∙ sym (one_more d cq pair);
      place_each = ap (λ (ps : List (Option ℕ)). length ps) grown ∙ long ∙ ap (λ n. n + 1) count;
      has = subst (λ (ps : List (Option ℕ)). HasEachPlace ps c.add.new.queues.items) (sym grown)
          (subst (HasEachPlace (places ++ next ∷ [])) (sym c.in_ok-add.ensures) (places_more d cq (FIRST_QP + pair) places queues before.has (ap (λ n. FIRST_QP + n) (sym count))));
    }
