use Rattle.std.proofs.Common.{◌≡◌, ◌-◌, min, length, drop, ap, ◌∙◌, arith}
use Rattle.std.proofs.lemmas.List.{take_all, drop_min, length-drop}
use Rattle.cmd_bodies.proofs.head.behind_head.Goals as goal

pub returns : goal.returns
returns c =
    let bytes = c.args.bytes.now in
    let held = c.min.result in
    let least : held ≡ min 16 (length bytes) = omega (arith, c.min.ensures) in
    take_all (length bytes - held) (drop held bytes) (rw length-drop (omega arith))
    ∙ ap (λ n. drop n bytes) least
    ∙ drop_min 16 bytes
