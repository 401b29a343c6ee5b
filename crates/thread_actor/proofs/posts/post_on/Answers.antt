use Rattle.std.proofs.Common.{ℕ, sym, subst, map}
use Rattle.std.proofs.lemmas.List.{length-map}
use Rattle.verbs_types.specs.declared.request.Item.{Item}
use Rattle.verbs_types.specs.declared.request.Item.TheVariants.{Request as TheRequest}
use Rattle.provider_post.specs.Side.{PostView, IsListOf}
use Rattle.thread_actor.specs.Posts.{begun}
use Rattle.thread_actor.proofs.Beginning.{begun_list}
use Rattle.thread_actor.proofs.posts.post_on.Goals as goal

pub turn-answer-requires-clause-list : goal.turn-answer-requires-clause-list
turn-answer-requires-clause-list g c =
    let items = map (λ x. TheRequest x) c.args.requests.now in
    subst (λ (side : PostView). IsListOf side items) (sym c.begin_post.ensures)
    (subst (λ (n : ℕ). IsListOf (begun c.args.side.now n) items) (length-map c.args.requests.now (λ x. TheRequest x)) (begun_list c.args.side.now items c.requires.may))
