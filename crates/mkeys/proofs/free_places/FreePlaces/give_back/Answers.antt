use Rattle.mkeys.proofs.PlaceBits.{summary_free, turns_free}
use Rattle.mkeys.proofs.free_places.FreePlaces.give_back.Goals as goal

pub invariant_of-self : goal.invariant_of-self
invariant_of-self c = summary_free c.self.inside.words c.self.inside.summary c.args.place c.self.told c.requires c.self.invariant

pub returns : goal.returns
returns c = rw (← c.self.view_is) (turns_free c.self.inside.words c.args.place c.self.told c.requires)
