-- The names of the threads passed so far follow the others.
use Rattle.std.proofs.Common.{◌≡◌, ◌∷◌, codes, take}
use Rattle.transcript_text.proofs.actor_names.names_of.Given as goal

abbrev pub invariant-loop-name : goal.invariant-loop-name
invariant-loop-name l = l.names.items ≡ codes "ctl" ∷ codes "dev" ∷ take l.name-index l.lines.threads
