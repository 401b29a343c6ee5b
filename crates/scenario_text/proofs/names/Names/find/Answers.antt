use Rattle.std.proofs.Common.{◌∙◌, ap}
use Rattle.scenario_text.specs.Naming.{meaning_of}
use Rattle.scenario_text.proofs.NamingLemmas.{found_in}
use Rattle.scenario_text.proofs.names.Names.find.Goals as goal

pub returns : goal.returns
returns c =
    c.copied.ensures ∙ c.get.ensures.value ∙ found_in (λ k. k.items) c.self.inside.meanings.entries c.args.name.now
    ∙ ap (λ names. meaning_of names c.args.name.now) c.self.view_is
