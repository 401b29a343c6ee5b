use Rattle.std.proofs.Common.{◌≤◌, ◌<◌, drop, length, sym, ◌∙◌, arith}
use Rattle.std.proofs.lemmas.List.{drop_all, length-drop}
use Rattle.verbs_laws.proofs.Sameness.{is_front-nil}
use Rattle.verbs_model.proofs.rules.is_front.Goals as goal

pub returns-in_default-2 : goal.returns-in_default-2
returns-in_default-2 c =
    let xs = c.args.completions.now in
    let us = c.args.unpolled.now in
    let i = c.loop-place.place in
    let past : length us ≤ i = grind (arith, c.get.ensures.lookup, c.in_default.is) in
    let left : 0 < length (drop i xs) = simp length-drop (omega arith) in
    sym (is_front-nil (drop i xs) left) ∙ rw (drop_all i us past) at c.loop-place.invariant
