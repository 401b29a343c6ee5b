-- Those passed so far are items.
use Rattle.std.proofs.Common.{◌≡◌, take, map}
use Rattle.verbs_types.specs.declared.request.Item.TheVariants.{Request as TheRequest}
use Rattle.noted_history.proofs.posting.requests_of.Given as goal

abbrev pub invariant-loop-request : goal.invariant-loop-request
invariant-loop-request l = l.items.items ≡ map TheRequest (take l.request-index l.requests)
