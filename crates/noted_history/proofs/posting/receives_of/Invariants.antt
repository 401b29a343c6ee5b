-- Those passed so far are items.
use Rattle.std.proofs.Common.{◌≡◌, take, map}
use Rattle.verbs_types.specs.declared.request.Item.TheVariants.{Receive as TheReceive}
use Rattle.noted_history.proofs.posting.receives_of.Given as goal

abbrev pub invariant-loop-receive : goal.invariant-loop-receive
invariant-loop-receive l = l.items.items ≡ map TheReceive (take l.receive-index l.receives)
