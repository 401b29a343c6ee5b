-- Those of the lines so far.
use Rattle.device_engine.specs.First.{AreFirstPairs}
use Rattle.device_engine.proofs.start.first_pairs.Given as goal

abbrev pub invariant-loop-place : goal.invariant-loop-place
invariant-loop-place l = AreFirstPairs l.fn.d l.place l.pairs.items
