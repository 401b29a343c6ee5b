use Rattle.std.proofs.Common.{◌≡◌, ◌-◌, ◌<◌, length, sym, ap, ◌∙◌, subst, true, Option, option_to_list, slice_get}
use Rattle.verbs_types.specs.declared.request.Item.{Item}
use Rattle.verbs_types.specs.declared.completion.Queue.{Queue}
use Rattle.verbs_types.specs.declared.completion.Queue.TheVariants.{Send}
use Rattle.verbs_rules.specs.Rows.{acts_of}
use Rattle.verbs_rules.specs.Rules.{queue_lives}
use Rattle.verbs_rules.specs.OfOne.{WorkQueue}
use Rattle.verbs_model.specs.Tables.{Tables, state_of, queue_at, pair_at, pair_is_in}
use Rattle.verbs_model.proofs.Places.{fetched}
use Rattle.verbs_model.proofs.abstract_state.Abstract.fetch.Goals as goal

pub returns-in-Send : goal.returns-in-Send
returns-in-Send c =
    let same = sym c.self.view_is in
    let qp = c.in-Send.qp in
    let number = c.args.number in
    let pair = c.pair.result in
    let item = c.item-item.ensures ∙ ap (λ (u : WorkQueue). slice_get u.posted (number - 1)) c.queue.ensures in
    let owes = c.act_of-owed.ensures ∙ ap (λ (o : Option Item). acts_of pair qp number o) item in
    let lives = subst (λ (q : Queue). queue_lives (state_of c.args.self.now) q ≡ true) c.in-Send.is c.requires in
    rw (← c.self.view_is, c.in-Send.is) (fetched c.self.inside qp c.place-place.result number c.index_mut.result.now c.take.new.self pair c.act_of-owed.result
    c.place-place.ensures.place c.index_mut.ensures.value c.take.ensures
    (subst (λ (t : Tables). pair ≡ pair_at t qp) same c.pair.ensures)
    (subst (λ (t : Tables). option_to_list c.act_of-owed.result ≡ acts_of pair qp number (slice_get (queue_at t (Send qp)).posted (number - 1))) same owes)
    (subst (λ (t : Tables). pair_is_in t qp ≡ true) same lives)
    (subst (λ (t : Tables). c.place-place.result < length t.queues) same c.place-place.ensures.inside))
