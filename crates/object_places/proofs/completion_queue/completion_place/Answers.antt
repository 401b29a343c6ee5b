use Rattle.std.proofs.Common.{◌+◌, ◌≤◌, sym, subst, arith}
use Rattle.verbs_types.specs.declared.declaration.CqLine.{CqLine}
use Rattle.owner_ring.specs.Place.{IsPlace}
use Rattle.actor_map.specs.Sizes.{cq_words, words_of}
use Rattle.cq_pair.specs.declared.place.CqPlace.{CqPlace}
use Rattle.cq_pair.specs.Place.{ring_of}
use Rattle.object_places.specs.Places.{AreWithin}
use Rattle.object_places.proofs.Fine.{completions_fine, completions_within}
use Rattle.object_places.proofs.completion_queue.completion_place.Goals as goal

fits : (c : goal.After-completions_from) → c.first_of.result + cq_words c.line_of.result.now ≤ words_of c.args.d.now
fits c = subst (λ (l : CqLine). c.first_of.result + cq_words l ≤ words_of c.args.d.now) (sym c.line_of.ensures.line) c.first_of.ensures.fits

pub returns-clause-fine : goal.returns-clause-fine
returns-clause-fine c =
    subst (λ (p : CqPlace). IsPlace (ring_of p)) (sym c.completions_from.ensures)
    (completions_fine c.args.object c.first_of.result c.line_of.result.now c.line_of.ensures.size c.line_of.ensures.log (omega (arith, fits c, c.requires.fits)))

pub returns-clause-within : goal.returns-clause-within
returns-clause-within c =
    subst (λ (p : CqPlace). AreWithin (words_of c.args.d.now) p) (sym c.completions_from.ensures)
    (completions_within c.args.object c.first_of.result (words_of c.args.d.now) c.line_of.result.now c.line_of.ensures.log (fits c))
