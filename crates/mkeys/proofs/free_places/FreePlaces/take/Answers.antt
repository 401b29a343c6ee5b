use Rattle.mkeys.proofs.PlaceBits.{summary_taken, turns_taken}
use Rattle.mkeys.proofs.free_places.FreePlaces.take.Goals as goal

pub invariant_of-self : goal.invariant_of-self
invariant_of-self c = summary_taken c.self.inside.words c.self.inside.summary c.args.place _ c.self.told c.requires c.if-left-eq0.true c.self.invariant

pub returns-then-left-eq0 : goal.returns-then-left-eq0
returns-then-left-eq0 c = rw (← c.self.view_is) (turns_taken c.self.inside.words c.args.place c.self.told c.requires)

pub returns-else-left-eq0 : goal.returns-else-left-eq0
returns-else-left-eq0 c = rw (← c.self.view_is) (turns_taken c.self.inside.words c.args.place c.self.told c.requires)
