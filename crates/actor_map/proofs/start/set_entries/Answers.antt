use Rattle.actor_map.proofs.Setting.{can_set_entry, sets_entry}
use Rattle.actor_map.proofs.start.set_entries.Goals as goal

pub set_words-next-requires : goal.set_words-next-requires
set_words-next-requires c = record {
  room = can_set_entry c.args.bus.now c.loop.bus c.args.from c.loop.next c.loop.counter c.args.count c.args.owner c.loop.invariant c.requires.room c.loop-test.true;
}

pub loop-preserved : goal.loop-preserved
loop-preserved c =
    sets_entry c.args.bus.now c.loop.bus c.set_words-next.new.bus c.args.from c.loop.next c.set_words-next.result c.loop.counter c.args.owner c.loop.invariant c.set_words-next.ensures
