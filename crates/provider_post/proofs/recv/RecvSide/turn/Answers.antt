use Rattle.std.proofs.Common.{map, subst, sym}
use Rattle.std.specs.Prelude.{IsSome}
use Rattle.verbs_types.specs.declared.request.Item.TheVariants.{Receive as TheReceive}
use Rattle.provider_post.specs.Side.{PostView, PostTurn}
use Rattle.provider_post.proofs.Items.{posted}
use Rattle.provider_post.proofs.recv.RecvSide.turn.Goals as goal

pub returns-clause-made : goal.returns-clause-made
returns-clause-made g c =
    let items = map TheReceive c.args.list.now in
    let busy = subst (λ (v : PostView). IsSome v.call) (sym c.self.view_is) c.requires.busy in
    let turn = posted c.self.inside.side c.begin_next.new.side c.turn.new.self items c.turn.ensures.made.0 c.turn.result busy c.begin_next.ensures c.turn.ensures.made.2 in (c.turn.ensures.made.0, c.turn.ensures.made.1, subst (λ (v : PostView). PostTurn v c.turn.new.self items c.turn.ensures.made.0 c.turn.result) c.self.view_is turn)
