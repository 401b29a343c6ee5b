use Rattle.std.proofs.Common.{◌≡◌, subst}
use Rattle.provider_poll.specs.PollStep.{after_retire}
use Rattle.provider_poll.proofs.turns.retire.Goals as goal

pub returns : goal.returns
returns g c =
    let t = c.retire-pair.ensures.turn.2 in (
      c.retire-pair.ensures.turn.0,
      c.retire-pair.ensures.turn.1,
      record {
        before = t.turns.before;
        after = t.turns.after;
        within = t.turns.within;
        step = t.step;
        queue_turn = t.turns.queue_turn;
        turned_is = subst (λ n. c.after_retire.result ≡ after_retire c.retire-pair.new.self c.args.taken c.args.empty c.args.left.items n c.args.first.end) t.pair_is c.after_retire.ensures;
      },
    )
