use Rattle.std.proofs.Common.{◌≡◌, ◌<◌, ◌∷◌, [], ℕ, length, get_or, ap, ◌∙◌, subst, arith}
use Rattle.actor_map.specs.Places.{Places}
use Rattle.actor_map.specs.Sizes.{qp_words}
use Rattle.actor_map.proofs.Placing.{places_next, room_left}
use Rattle.actor_map.proofs.placed.Placed.place_qps.Goals as goal

pub place-requires : goal.place-requires
place-requires c =
    let lines = c.args.lines.now in
    let below : c.loop-line.line-index < length lines = omega (arith, c.loop-line-test.true) in
    let size : c.qp_words.result ≡ qp_words (get_or lines c.loop-line.line-index c.line-item.result) = c.qp_words.ensures ∙ ap qp_words c.line-item.is in
    record { room = omega (arith, size, room_left qp_words lines c.loop-line.line-index c.line-item.result below c.args.self.now c.loop-line.self 1048576 c.loop-line.invariant c.requires.room) }

pub loop-line-preserved : goal.loop-line-preserved
loop-line-preserved c =
    let lines = c.args.lines.now in
    let below : c.loop-line.line-index < length lines = omega (arith, c.loop-line-test.true) in
    let size : c.qp_words.result ≡ qp_words (get_or lines c.loop-line.line-index c.line-item.result) = c.qp_words.ensures ∙ ap qp_words c.line-item.is in
    places_next qp_words lines c.loop-line.line-index c.line-item.result below c.args.self.now c.loop-line.self c.place.new.self c.loop-line.invariant
    (subst (λ (n : ℕ). Places c.loop-line.self c.place.new.self (n ∷ [])) size c.in_ok-place.ensures)
