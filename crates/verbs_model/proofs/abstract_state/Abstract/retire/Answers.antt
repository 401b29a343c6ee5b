use Rattle.std.proofs.Common.{◌≡◌, ◌<◌, length, sym, ap, ◌∙◌, subst, true}
use Rattle.verbs_rules.specs.Rules.{queue_lives}
use Rattle.verbs_rules.specs.OfOne.{WorkQueue}
use Rattle.verbs_model.specs.Queues.{parts_of, retired_to}
use Rattle.verbs_model.specs.InsideAbstract.{tables}
use Rattle.verbs_model.specs.Tables.{Tables, all_of, state_of}
use Rattle.verbs_model.proofs.Parts.{parts_of-retired}
use Rattle.verbs_model.proofs.Places.{changed_queue}
use Rattle.verbs_model.proofs.abstract_state.Abstract.retire.Goals as goal

pub returns : goal.returns
returns c =
    let same = sym c.self.view_is in
    rw (← c.self.view_is) (ap parts_of (changed_queue c.self.inside c.args.queue c.place-place.result c.index_mut.result.now c.retire.new.self c.place-place.ensures.place c.index_mut.ensures.value
    (λ (u : WorkQueue). retired_to u c.args.count) c.retire.ensures
    (subst (λ (t : Tables). queue_lives (state_of t) c.args.queue ≡ true) same c.requires)
    (subst (λ (t : Tables). c.place-place.result < length t.queues) same c.place-place.ensures.inside)) ∙ parts_of-retired (all_of (tables c.self.inside)) c.args.queue c.args.count)
