-- Those passed so far are taken.
use Rattle.std.proofs.Common.{◌≡◌, take, map}
use Rattle.verbs_types.specs.declared.state.Unpolled.{Unpolled}
use Rattle.noted_history.proofs.completions.first_unpolled.Given as goal

abbrev pub invariant-loop-unpolled : goal.invariant-loop-unpolled
invariant-loop-unpolled l = l.completions.items ≡ map (λ (u : Unpolled). u.completion) (take l.unpolled-index l.unpolled-items)
