use Rattle.std.proofs.Common.{◌≡◌, ap, ◌∙◌, sym, subst, arith}
use Rattle.actor_map.specs.declared.kind.ObjectKind.TheVariants.{Cq}
use Rattle.actor_map.specs.Map.{IsMapped, MapView, first_word, map_of}
use Rattle.object_places.proofs.Lines.{cq_number}
use Rattle.object_places.proofs.Standing.{cq_mapped, cq_stands}
use Rattle.object_places.proofs.completion_queue.first_of.Goals as goal

pub first-requires : goal.first-requires
first-requires c =
    let below = cq_number c.args.d.now c.args.object c.requires.object in
    record { declared = subst (λ (m : MapView). IsMapped m Cq c.args.object) (sym c.requires.map) (cq_mapped c.whole.ensures c.inside.ensures c.args.d.now c.args.object below) }

pub returns-clause-fits : goal.returns-clause-fits
returns-clause-fits c =
    let stands = cq_stands c.whole.ensures c.inside.ensures c.args.d.now c.args.object (cq_number c.args.d.now c.args.object c.requires.object) in
    let first : c.first.result ≡ first_word (map_of c.args.d.now) Cq c.args.object = c.first.ensures ∙ ap (λ (m : MapView). first_word m Cq c.args.object) c.requires.map in
    omega (arith, first, stands.high)
