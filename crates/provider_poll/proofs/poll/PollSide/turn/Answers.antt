use Rattle.std.proofs.Common.{◌≡◌, ℕ, sym, ap, ◌∙◌, subst, List, ◌∷◌}
use Rattle.bus_core.specs.declared.turn.Note.{Note}
use Rattle.cq_pair.specs.declared.place.CqPlace.{CqPlace}
use Rattle.provider_poll.specs.declared.state.PollState.{PollState}
use Rattle.provider_poll.specs.declared.state.PollState.TheVariants.{Polling, LookingUp, Retiring, Acking}
use Rattle.provider_poll.specs.declared.state.End.{End}
use Rattle.provider_poll.specs.declared.poll_step.PollStep.{PollStep}
use Rattle.provider_poll.specs.Turns.{Looks, LooksUp, Acknowledges}
use Rattle.provider_poll.specs.FollowsRule.{PollTurn}
use Rattle.provider_poll.specs.Poll.{PollView}
use Rattle.provider_poll.specs.PollInside.{IsAtWork}
use Rattle.provider_poll.proofs.Hosts.{polled}
use Rattle.provider_poll.proofs.Kept.{looks, looked_up, retired}
use Rattle.provider_poll.proofs.Sides as sides
use Rattle.provider_poll.proofs.Sides.{side}
use Rattle.provider_poll.proofs.Changed.{removed}
use Rattle.provider_poll.proofs.Turned.{turned as turned_as}
use Rattle.provider_poll.proofs.poll.PollSide.turn.Goals as goal

pub invariant_of-self : goal.invariant_of-self
invariant_of-self g c =
    let work = subst (λ (s : PollState). IsAtWork c.self.inside.host c.self.inside.queues s) (sym c.in-Polling.ensures.value) c.self.invariant.work in
    let l = c.look-turned.ensures.2 in
    let fits = polled c.self.inside.host c.look-turned.new.host c.look-turned.ensures.0 l.step l.host_turn c.self.invariant.entry in
    record {
      number = c.self.invariant.number ∙ sym (ap (λ (p : CqPlace). p.number) l.host_turn.place);
      entry = fits.entry;
      work = subst (λ (t : PollStep). IsAtWork c.look-turned.new.host c.self.inside.queues t.state) (sym l.turned_is)
          (looks c.look-turned.new.host c.self.inside.queues c.self.inside.number c.in-Polling.max c.look-turned.new.host.seen c.in-Polling.ends work.few work.more _ l.step work.next fits l.host_turn.task);
    }

pub invariant_of-self-in-LookingUp : goal.invariant_of-self-in-LookingUp
invariant_of-self-in-LookingUp g c =
    let h = c.self.inside.host in
    let old = c.self.inside.queues in
    let new = c.look_up-turned.new.queues in
    let turned = c.look_up-turned.result in
    let work = subst (λ (s : PollState). IsAtWork h old s) (sym c.in-LookingUp.ensures.value) c.self.invariant.work in
    let kept = looked_up h old new c.look_up-turned.ensures.0 turned c.self.inside.number c.seen-seen.result.a c.in-LookingUp.max c.in-LookingUp.ends c.in-LookingUp.completion c.in-LookingUp.queue old c.look_up-turned.ensures.2 work in
    record { number = c.self.invariant.number; entry = c.self.invariant.entry; work = kept }

pub invariant_of-self-in-Retiring : goal.invariant_of-self-in-Retiring
invariant_of-self-in-Retiring g c =
    let h = c.self.inside.host in
    let new = c.retire-turned.new.queues in
    let turned = c.retire-turned.result in
    let work = subst (λ (s : PollState). IsAtWork h c.self.inside.queues s) (sym c.in-Retiring.ensures.value) c.self.invariant.work in
    let kept = retired h c.self.inside.queues new c.retire-turned.ensures.0 turned c.in-Retiring.taken c.in-Retiring.empty c.remove-first.result c.remove-first.new.self.items c.retire-turned.ensures.2 work.task in
    record { number = c.self.invariant.number; entry = c.self.invariant.entry; work = kept }

pub returns-in-Polling : goal.returns-in-Polling
returns-in-Polling g c =
    let h = c.self.inside.host in
    let new = c.look-turned.new.host in
    let queues = c.self.inside.queues in
    let e = c.look-turned.ensures.0 in
    let turned = c.look-turned.result in
    let max = c.in-Polling.max in
    let ends = c.in-Polling.ends in
    let noted = c.self.inside.noted in
    let looks = subst (λ (number : ℕ). Looks number h new queues max ends e turned) c.self.invariant.number c.look-turned.ensures.2 in
    let work = subst (λ (s : PollState). IsAtWork h queues s) (sym c.in-Polling.ensures.value) c.self.invariant.work in
    let before : side noted e turned h queues (Polling max ends) noted ≡ c.args.self.now = ap (λ (s : PollState). side noted e turned h queues s noted) c.in-Polling.ensures.value ∙ c.self.view_is in
    (e, c.look-turned.ensures.1, subst (λ (v : PollView). PollTurn v (side noted e turned new queues turned.state turned.noted) e turned.answer) before (turned_as _ _ e turned.answer (sides.looks noted e turned h new queues max ends looks) work))

pub returns-in-Acking : goal.returns-in-Acking
returns-in-Acking g c =
    let h = c.self.inside.host in
    let new = c.acknowledge-turned.new.host in
    let queues = c.self.inside.queues in
    let e = c.acknowledge-turned.ensures.0 in
    let turned = c.acknowledge-turned.result in
    let taken = c.in-Acking.taken in
    let empty = c.in-Acking.empty in
    let noted = c.self.inside.noted in
    let stores = subst (λ (number : ℕ). Acknowledges number h new taken empty e turned) c.self.invariant.number c.acknowledge-turned.ensures.2 in
    let work = subst (λ (s : PollState). IsAtWork h queues s) (sym c.in-Acking.ensures.value) c.self.invariant.work in
    let before : side noted e turned h queues (Acking taken empty) noted ≡ c.args.self.now = ap (λ (s : PollState). side noted e turned h queues s noted) c.in-Acking.ensures.value ∙ c.self.view_is in
    (e, c.acknowledge-turned.ensures.1, subst (λ (v : PollView). PollTurn v (side noted e turned new queues turned.state turned.noted) e turned.answer) before (turned_as _ _ e turned.answer (sides.acknowledges noted e turned h new queues taken empty stores) work))

pub returns-in-LookingUp : goal.returns-in-LookingUp
returns-in-LookingUp g c =
    let h = c.self.inside.host in
    let seen : c.seen-seen.result.a ≡ h.seen = ap (λ (n : Note). n.a) c.seen-seen.ensures in
    let old = c.self.inside.queues in
    let new = c.look_up-turned.new.queues in
    let e = c.look_up-turned.ensures.0 in
    let turned = c.look_up-turned.result in
    let max = c.in-LookingUp.max in
    let ends = c.in-LookingUp.ends in
    let completion = c.in-LookingUp.completion in
    let queue = c.in-LookingUp.queue in
    let noted = c.self.inside.noted in
    let u = subst (λ (number : ℕ). LooksUp number h.seen old new max ends completion queue e turned) c.self.invariant.number
    (subst (λ (seen : ℕ). LooksUp c.self.inside.number seen old new max ends completion queue e turned) seen c.look_up-turned.ensures.2) in
    let before : side noted e turned h old (LookingUp max ends completion queue) noted ≡ c.args.self.now = ap (λ (s : PollState). side noted e turned h old s noted) c.in-LookingUp.ensures.value ∙ c.self.view_is in
    let work = subst (λ (s : PollState). IsAtWork h old s) (sym c.in-LookingUp.ensures.value) c.self.invariant.work in
    (e, c.look_up-turned.ensures.1, subst (λ (v : PollView). PollTurn v (side noted e turned h new turned.state turned.noted) e turned.answer) before (turned_as _ _ e turned.answer (sides.asks noted e turned h old new max ends completion queue u) work))

pub returns-in-Retiring : goal.returns-in-Retiring
returns-in-Retiring g c =
    let h = c.self.inside.host in
    let old = c.self.inside.queues in
    let new = c.retire-turned.new.queues in
    let e = c.retire-turned.ensures.0 in
    let turned = c.retire-turned.result in
    let taken = c.in-Retiring.taken in
    let empty = c.in-Retiring.empty in
    let left = c.in-Retiring.left in
    let first = c.remove-first.result in
    let others = c.remove-first.new.self.items in
    let noted = c.self.inside.noted in
    let work = subst (λ (s : PollState). IsAtWork h old s) (sym c.in-Retiring.ensures.value) c.self.invariant.work in
    let all : first ∷ others ≡ left.items = removed left.items others first work.some c.remove-first.ensures.value c.remove-first.ensures.items in
    let before : side noted e turned h old (Retiring taken empty (record { items = first ∷ others })) noted ≡ c.args.self.now = ap (λ (ends : List End). side noted e turned h old (Retiring taken empty (record { items = ends })) noted) all ∙ ap (λ (s : PollState). side noted e turned h old s noted) c.in-Retiring.ensures.value ∙ c.self.view_is in
    let at_first = subst (λ (ends : List End). IsAtWork h old (Retiring taken empty (record { items = ends }))) (sym all) work in
    (e, c.retire-turned.ensures.1, subst (λ (v : PollView). PollTurn v (side noted e turned h new turned.state turned.noted) e turned.answer) before (turned_as _ _ e turned.answer (sides.retires noted e turned h old new taken empty first others c.retire-turned.ensures.2) at_first))
