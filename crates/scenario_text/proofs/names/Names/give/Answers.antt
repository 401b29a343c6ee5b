use Rattle.scenario_text.proofs.NamingLemmas.{entries_more}
use Rattle.scenario_text.proofs.names.Names.give.Goals as goal

pub returns : goal.returns
returns c = record {
  given = entries_more (λ k. k.items) c.self.inside.meanings.entries c.insert.new.self.entries c.in_ok-from_slice.field-0 c.args.meaning c.args.name.now c.args.self.now
      c.in_ok-from_slice.ensures.items
      c.self.view_is
      c.requires.new
      c.in_ok-insert.ensures.entries;
}
