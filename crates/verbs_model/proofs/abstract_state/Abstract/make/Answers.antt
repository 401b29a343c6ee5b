use Rattle.std.proofs.Common.{sym, ap, ◌∙◌, List}
use Rattle.verbs_types.specs.declared.request.Item.{Item}
use Rattle.verbs_rules.specs.Rows.{post, poll}
use Rattle.verbs_rules.specs.Step.{after}
use Rattle.verbs_model.specs.Tables.{state_of}
use Rattle.verbs_model.proofs.abstract_state.Abstract.make.Goals as goal

pub returns-in_ok-post-in-Post-clause-made : goal.returns-in_ok-post-in-Post-clause-made
returns-in_ok-post-in-Post-clause-made c =
    let v = state_of c.args.self.now in
    let queue = c.in-Post.queue in
    c.in_ok-post-in-Post.ensures.made
    ∙ (ap (λ (items : List Item). post v queue items) c.as_slice.ensures
    ∙ ap (after v) (sym c.in-Post.is))

pub returns-in_ok-poll-in-Poll-clause-made : goal.returns-in_ok-poll-in-Poll-clause-made
returns-in_ok-poll-in-Poll-clause-made c =
    let v = state_of c.args.self.now in
    c.in_ok-poll-in-Poll.ensures.made
    ∙ (ap (poll v c.in-Poll.cq) c.as_slice-in-Poll.ensures
    ∙ ap (after v) (sym c.in-Poll.is))

pub returns-in-Retire-clause-made : goal.returns-in-Retire-clause-made
returns-in-Retire-clause-made c = c.retire.ensures ∙ ap (after (state_of c.args.self.now)) (sym c.in-Retire.is)

pub returns-in-Ack-clause-made : goal.returns-in-Ack-clause-made
returns-in-Ack-clause-made c = c.ack.ensures ∙ ap (after (state_of c.args.self.now)) (sym c.in-Ack.is)

pub returns-in_ok-publish-in-Publish-clause-made :
    goal.returns-in_ok-publish-in-Publish-clause-made
returns-in_ok-publish-in-Publish-clause-made c = c.in_ok-publish-in-Publish.ensures.made ∙ ap (after (state_of c.args.self.now)) (sym c.in-Publish.is)
