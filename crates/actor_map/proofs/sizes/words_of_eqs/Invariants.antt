-- The words of the lines passed so far.
use Rattle.std.proofs.Common.{◌≡◌, take}
use Rattle.std.specs.List.{sum_by}
use Rattle.actor_map.specs.Sizes.{eq_words}
use Rattle.actor_map.proofs.sizes.words_of_eqs.Given as goal

abbrev pub invariant-loop-line : goal.invariant-loop-line
invariant-loop-line l = l.total ≡ sum_by eq_words (take l.line-index l.lines)
