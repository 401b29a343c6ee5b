use Rattle.std.proofs.Common.{sym, ap, ◌∙◌}
use Rattle.scenario_text.specs.Keywords.{keyword_in}
use Rattle.scenario_text.specs.Sofar.{view_of}
use Rattle.scenario_text.proofs.Naming.{named_in}
use Rattle.scenario_text.proofs.sofar.Sofar.add.Goals as goal

pub add_keyword-requires-clause-new : goal.add_keyword-requires-clause-new
add_keyword-requires-clause-new c =
    named_in (view_of c.args.self.now) c.args.line.now c.in-Some.keyword c.requires.good (sym c.is_skipped.ensures ∙ c.if-is_skipped.false) (ap (keyword_in c.args.self.now.place) (sym c.part.ensures) ∙ sym c.keyword.ensures ∙ c.in-Some.is)
