-- The words passed so far are set.
use Rattle.std.proofs.Common.{take}
use Rattle.actor_map.specs.Setting.{Sets}
use Rattle.actor_map.proofs.start.set_words.Given as goal

abbrev pub invariant-loop-word : goal.invariant-loop-word
invariant-loop-word l = Sets l.initial.bus l.bus l.initial.from (take l.word-index l.words) l.next
