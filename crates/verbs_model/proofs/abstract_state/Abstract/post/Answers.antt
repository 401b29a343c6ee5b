use Rattle.std.proofs.Common.{◌≡◌, ◌<◌, length, sym, ap, ◌∙◌, subst, true}
use Rattle.std.proofs.lemmas.Result.{on_ok_weaker, on_err_weaker}
use Rattle.verbs_rules.specs.Rules.{queue_lives}
use Rattle.verbs_rules.specs.OfOne.{WorkQueue}
use Rattle.verbs_model.specs.Queues.{parts_of, posted_more}
use Rattle.verbs_model.specs.InsideAbstract.{tables}
use Rattle.verbs_model.specs.Tables.{Tables, all_of, state_of}
use Rattle.verbs_model.proofs.Parts.{parts_of-posted}
use Rattle.verbs_model.proofs.Places.{changed_queue, kept_queue}
use Rattle.verbs_model.proofs.abstract_state.Abstract.post.Goals as goal

pub returns-clause-made : goal.returns-clause-made
returns-clause-made c =
    let same = sym c.self.view_is in
    rw (← c.self.view_is) (on_ok_weaker c.post.result
    (λ made. ap parts_of (changed_queue c.self.inside c.args.queue c.place-place.result c.index_mut.result.now c.post.new.self c.place-place.ensures.place c.index_mut.ensures.value
    (λ (u : WorkQueue). posted_more u c.args.items.now) made
    (subst (λ (t : Tables). queue_lives (state_of t) c.args.queue ≡ true) same c.requires)
    (subst (λ (t : Tables). c.place-place.result < length t.queues) same c.place-place.ensures.inside)) ∙ parts_of-posted (all_of (tables c.self.inside)) c.args.queue c.args.items.now)
    c.post.ensures.made)

pub returns-clause-unchanged : goal.returns-clause-unchanged
returns-clause-unchanged c =
    rw (← c.self.view_is) (on_err_weaker c.post.result
    (kept_queue c.self.inside c.args.queue c.place-place.result c.index_mut.result.now c.post.new.self c.place-place.ensures.place c.index_mut.ensures.value)
    c.post.ensures.unchanged)
