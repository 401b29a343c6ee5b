-- The lines passed so far are placed.
use Rattle.std.proofs.Common.{map, take}
use Rattle.actor_map.specs.Places.{Places}
use Rattle.actor_map.specs.Sizes.{qp_words}
use Rattle.actor_map.proofs.placed.Placed.place_qps.Given as goal

abbrev pub invariant-loop-line : goal.invariant-loop-line
invariant-loop-line l = Places l.initial.self l.self (map qp_words (take l.line-index l.lines))
