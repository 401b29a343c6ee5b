-- So many entries are set.
use Rattle.actor_map.specs.Setting.{Sets}
use Rattle.actor_map.specs.Start.{entries}
use Rattle.actor_map.proofs.start.set_entries.Given as goal

abbrev pub invariant-loop : goal.invariant-loop
invariant-loop l = Sets l.initial.bus l.bus l.initial.from (entries l.counter l.owner) l.next
