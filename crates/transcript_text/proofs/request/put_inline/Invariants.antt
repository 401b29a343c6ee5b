-- The digits of the bytes so far are in the text.
use Rattle.std.proofs.Common.{◌≡◌, ◌∷◌, ◌++◌, take}
use Rattle.std.specs.List.{flat_map}
use Rattle.scenario_text.specs.Requests.{hex}
use Rattle.transcript_text.proofs.request.put_inline.Given as goal

abbrev pub invariant-loop-byte : goal.invariant-loop-byte
invariant-loop-byte l = l.out ≡ l.fn.out ++ 32 ∷ 61 ∷ flat_map (hex 2) (take l.byte-index l.bytes)
