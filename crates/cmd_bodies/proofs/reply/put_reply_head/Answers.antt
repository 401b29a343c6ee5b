use Rattle.std.proofs.Common.{List, [], ◌∷◌, refl}
use Rattle.prm_fields.proofs.Chains.{Chain, Put, put_of, all_hold}
use Rattle.cmd_bodies.proofs.reply.put_reply_head.Goals as goal

pub returns-clause-head : goal.returns-clause-head
returns-clause-head c =
    let puts : List Put = put_of 0 8 c.args.status ∷ put_of 8 56 0 ∷ put_of 64 32 c.args.number ∷ put_of 96 32 c.args.count ∷ [] in
    let chain : Chain puts c.args.to.now c.put-4.new.bytes = (
      c.put.new.bytes,
      c.put.ensures.stored,
      c.put.ensures.others,
      (
        c.put-2.new.bytes,
        c.put-2.ensures.stored,
        c.put-2.ensures.others,
        (
          c.put-3.new.bytes,
          c.put-3.ensures.stored,
          c.put-3.ensures.others,
          (c.put-4.new.bytes, c.put-4.ensures.stored, c.put-4.ensures.others, refl),
        ),
      ),
    )
    in
    let held = all_hold puts c.args.to.now c.put-4.new.bytes chain refl in
    record {
      status_there = held.0;
      syndrome_clear = held.1.0;
      number_there = held.1.1.0;
      count_there = held.1.1.1.0;
    }
