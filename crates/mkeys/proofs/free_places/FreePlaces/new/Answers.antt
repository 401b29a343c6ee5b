use Rattle.mkeys.proofs.PlaceBits.{ones_free, ones_summary}
use Rattle.mkeys.proofs.free_places.FreePlaces.new.Goals as goal

pub invariant_of-result : goal.invariant_of-result
invariant_of-result c = ones_summary

pub returns : goal.returns
returns c = ones_free
