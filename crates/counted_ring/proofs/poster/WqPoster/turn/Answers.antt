use Rattle.std.proofs.Common.{◌≡◌, ◌<◌, refl, ap, sym, ◌∙◌, subst, length, get_or, None}
use Rattle.bus_core.specs.Port.{made}
use Rattle.bus_core.specs.declared.operation.BusOp.TheVariants.{Store}
use Rattle.counted_ring.specs.declared.poster.Phase.{Phase}
use Rattle.counted_ring.specs.PosterInside.{IsAtWork, side_in, rung_in, stage_in, task_in}
use Rattle.std.specs.Prelude.{slice_index}
use Rattle.counted_ring.proofs.Parts.{word_few}
use Rattle.counted_ring.proofs.PosterTurns.{turn_more, turn_whole}
use Rattle.counted_ring.proofs.poster.WqPoster.turn.Goals as goal

pub returns-then-stored-self-clause-made : goal.returns-then-stored-self-clause-made
returns-then-stored-self-clause-made g c =
    let a = c.self.inside in
    let full : length a.entry.words ≡ 32 = search (c.self.ranges) in
    let work = subst (IsAtWork a.place a.posts.count a.posts.index a.entry) c.in-Storing.is c.self.invariant.work in
    let few : c.in-Storing.stored < 32 = word_few a.place a.entry.blocks (slice_index a.entry.words 0) c.in-Storing.stored c.self.invariant.place_ok work.0.spans work.1 in
    let e = made (g.P.BusPort.port c.args.port.now) c.word_at-address.result (Store (get_or a.entry.words c.in-Storing.stored 0)) None in
    let seen = ap (λ (ph : Phase). record { place = a.place; side = side_in a.posts a.seen (stage_in a.place a.entry a.id ph); rung = rung_in a.rung; task = task_in a.place a.entry a.id ph }) (sym c.in-Storing.is) ∙ c.self.view_is in
    let turn = turn_whole a.place a.posts.count a.posts.index a.posts.first a.id a.seen c.in-Storing.stored (rung_in a.rung) a.entry full few work.0.spans e (record { op = refl; at_address = c.word_at-address.ensures.at }) c.word_at-address.ensures.inside c.args.self.now seen c.if-stored-self.true in
    (e, search, turn)

pub returns-else-stored-self-clause-made : goal.returns-else-stored-self-clause-made
returns-else-stored-self-clause-made g c =
    let a = c.self.inside in
    let full : length a.entry.words ≡ 32 = search (c.self.ranges) in
    let work = subst (IsAtWork a.place a.posts.count a.posts.index a.entry) c.in-Storing.is c.self.invariant.work in
    let few : c.in-Storing.stored < 32 = word_few a.place a.entry.blocks (slice_index a.entry.words 0) c.in-Storing.stored c.self.invariant.place_ok work.0.spans work.1 in
    let e = made (g.P.BusPort.port c.args.port.now) c.word_at-address.result (Store (get_or a.entry.words c.in-Storing.stored 0)) None in
    let seen = ap (λ (ph : Phase). record { place = a.place; side = side_in a.posts a.seen (stage_in a.place a.entry a.id ph); rung = rung_in a.rung; task = task_in a.place a.entry a.id ph }) (sym c.in-Storing.is) ∙ c.self.view_is in
    let turn = turn_more a.place a.posts.count a.posts.index a.posts.first a.id a.seen c.in-Storing.stored (rung_in a.rung) a.entry full few work.0.spans e (record { op = refl; at_address = c.word_at-address.ensures.at }) c.word_at-address.ensures.inside c.args.self.now seen c.if-stored-self.false in
    (e, search, turn)
