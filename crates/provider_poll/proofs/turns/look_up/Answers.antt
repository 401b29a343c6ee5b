use Rattle.provider_poll.proofs.turns.look_up.Goals as goal

pub returns : goal.returns
returns g c =
    let t = c.look_up-step.ensures.2 in (
      c.look_up-step.ensures.0,
      c.look_up-step.ensures.1,
      record { before = t.before; after = t.after; within = t.within; step = c.look_up-step.result; queue_turn = t.queue_turn; turned_is = c.after_lookup.ensures },
    )
