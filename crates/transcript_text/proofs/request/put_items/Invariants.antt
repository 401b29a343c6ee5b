-- The items so far are in the text.
use Rattle.std.proofs.Common.{◌≡◌, ◌++◌, take}
use Rattle.std.specs.List.{flat_map}
use Rattle.scenario_text.specs.Requests.{item_fields}
use Rattle.transcript_text.specs.Fields.{spaced}
use Rattle.transcript_text.proofs.request.put_items.Given as goal

abbrev pub invariant-loop-item : goal.invariant-loop-item
invariant-loop-item l = l.out ≡ l.fn.out ++ spaced (flat_map item_fields (take l.item-index l.items))
