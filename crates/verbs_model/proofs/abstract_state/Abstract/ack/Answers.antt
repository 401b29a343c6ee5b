use Rattle.std.proofs.Common.{◌≡◌, sym, subst, true}
use Rattle.verbs_model.specs.InsideAbstract.{tables}
use Rattle.verbs_model.specs.Tables.{Tables, completions_are_in}
use Rattle.verbs_model.proofs.OneCompletions.{state_of-acked}
use Rattle.verbs_model.proofs.abstract_state.Abstract.ack.Goals as goal

pub returns : goal.returns
returns c =
    let lives = subst (λ (t : Tables). completions_are_in t c.args.cq ≡ true) (sym c.self.view_is) c.requires.lives in
    rw (← c.self.view_is) (state_of-acked (tables c.self.inside) c.args.cq c.args.index c.index_mut.result.now c.ack.new.self lives c.index_mut.ensures.value c.ack.ensures)
