use Rattle.std.proofs.Common.{◌∷◌, ◌∙◌, sym, ap, ◌+◌, ◌-◌, ◌==◌, length, take, drop, length-drop, length-take, take_all, refl, arith}
use Rattle.std.specs.List.{slice_split}
use Rattle.scenario_text.proofs.Splitting.{split_at_found, split_at_none}
use Rattle.scenario_text.proofs.parts.cut.Goals as goal

pub returns-in-Some : goal.returns-in-Some
returns-in-Some c =
    let bs = c.args.bytes.now in
    let end = c.in-Some.end in
    let found = split_at_found (λ b. b == c.args.separator) bs end (sym c.position_of.ensures ∙ c.in-Some.is) in
    record {
      parts = found.1 ∙ ap (λ rest. take end bs ∷ slice_split (λ b. b == c.args.separator) rest) (sym (take_all (length bs - (end + 1)) (drop (end + 1) bs) (omega (arith, length-drop (end + 1) bs))));
      shorter = omega (arith, length-drop (end + 1) bs, length-take (length bs - (end + 1)) (drop (end + 1) bs), found.0);
    }

pub returns-in-None : goal.returns-in-None
returns-in-None c = record { parts = split_at_none (λ b. b == c.args.separator) c.args.bytes.now (sym c.position_of.ensures ∙ c.in-None.is); shorter = refl }
