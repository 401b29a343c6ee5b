-- What is left of the history is illegal in the state reached as all of it is in the first one, and what came before was legal.
use Rattle.std.proofs.Common.{◌≡◌, drop}
use Rattle.verbs_rules.specs.Legal.{first_illegal}
use Rattle.verbs_model.specs.Tables.{state_of}
use Rattle.verbs_model.proofs.history.check_history.Given as goal

abbrev pub invariant-loop-at : goal.invariant-loop-at
invariant-loop-at l = first_illegal (state_of l.state) l.«at» (drop l.«at» l.h) ≡ first_illegal (state_of l.first) 0 l.h
