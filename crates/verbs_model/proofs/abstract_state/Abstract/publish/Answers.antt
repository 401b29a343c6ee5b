use Rattle.std.proofs.Common.{◌≡◌, ℕ, refl, sym, ap, ◌∙◌, subst, true, Option, Some, option_to_list}
use Rattle.verbs_types.specs.declared.state.Act.{Act}
use Rattle.verbs_types.specs.declared.state.Act.TheVariants.{Complete}
use Rattle.verbs_types.specs.declared.state.Unpolled.{Unpolled}
use Rattle.verbs_rules.specs.Rows as rows
use Rattle.verbs_model.specs.InsideAbstract.{tables}
use Rattle.verbs_model.specs.Queues.{published_more}
use Rattle.verbs_model.specs.Tables.{Tables, completions_are_in, state_of}
use Rattle.verbs_model.proofs.OneCompletions.{state_of-published}
use Rattle.verbs_model.proofs.abstract_state.Abstract.publish.Goals as goal

parts_of_act : (act : Act) → (owner : ℕ) × (u : Unpolled) × (act ≡ Complete owner u)
parts_of_act (Complete owner u) = (owner, u, refl)

pub returns-in_ok-publish-clause-made : goal.returns-in_ok-publish-clause-made
returns-in_ok-publish-clause-made c =
    let t = tables c.self.inside in
    let act = parts_of_act c.in-Some-Complete.field-0 in
    let owed : c.self.inside.owed ≡ Some (Complete act.0 act.1) = c.in-Some-Complete.is ∙ ap Some act.2 in
    let lives = subst (λ (u : Tables). completions_are_in u c.args.cq ≡ true) (sym c.self.view_is) c.requires in
    let written : c.publish.new.self ≡ published_more c.index_mut.result.now act.1 = rw owed at c.in_ok-publish.ensures.made in
    let made = state_of-published t c.args.cq act.0 act.1 c.index_mut.result.now c.publish.new.self lives c.index_mut.ensures.value written in
    let owes = ap (λ (o : Option Act). rows.publish (state_of t) c.args.cq (option_to_list o)) (sym owed) in
    let seen = ap (λ (u : Tables). rows.publish (state_of u) c.args.cq (option_to_list u.owed)) c.self.view_is in
    made ∙ (owes ∙ seen)
