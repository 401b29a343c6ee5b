use Rattle.std.proofs.Common.{◌≡◌, ap, ◌∙◌, sym, subst, arith}
use Rattle.actor_map.specs.declared.kind.ObjectKind.TheVariants.{Qp}
use Rattle.actor_map.specs.Map.{IsMapped, MapView, first_word, map_of}
use Rattle.object_places.proofs.Lines.{qp_number}
use Rattle.object_places.proofs.Standing.{qp_mapped, qp_stands}
use Rattle.object_places.proofs.work_queue.first_of.Goals as goal

pub first-requires : goal.first-requires
first-requires c =
    let number = qp_number c.args.d.now c.args.object c.requires.object in
    record { declared = subst (λ (m : MapView). IsMapped m Qp c.args.object) (sym c.requires.map) (qp_mapped c.whole.ensures c.inside.ensures c.args.d.now c.args.object number) }

pub returns-clause-fits : goal.returns-clause-fits
returns-clause-fits c =
    let stands = qp_stands c.whole.ensures c.inside.ensures c.args.d.now c.args.object (qp_number c.args.d.now c.args.object c.requires.object) in
    let first : c.first.result ≡ first_word (map_of c.args.d.now) Qp c.args.object = c.first.ensures ∙ ap (λ (m : MapView). first_word m Qp c.args.object) c.requires.map in
    omega (arith, first, stands.high)
