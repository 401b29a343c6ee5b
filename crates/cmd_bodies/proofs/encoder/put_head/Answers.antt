use Rattle.std.proofs.Common.{◌/◌, ◌%◌, List, [], ◌∷◌, refl}
use Rattle.prm_fields.proofs.Chains.{Chain, Put, put_of, all_hold}
use Rattle.cmd_bodies.proofs.encoder.put_head.Goals as goal

pub returns-clause-head : goal.returns-clause-head
returns-clause-head c =
    let puts : List Put =
    put_of 0 16 (c.args.code / 65536) ∷ put_of 16 32 0 ∷ put_of 48 16 (c.args.code % 65536) ∷ put_of 64 32 c.args.number ∷ put_of 96 32 c.args.second ∷ [] in
    let chain : Chain puts c.args.to.now c.put-5.new.bytes = (
      c.put.new.bytes,
      c.put.ensures.stored,
      c.put.ensures.others,
      (
        c.put-2.new.bytes,
        c.put-2.ensures.stored,
        c.put-2.ensures.others,
        (
          c.put-3.new.bytes,
          c.put-3.ensures.stored,
          c.put-3.ensures.others,
          (
            c.put-4.new.bytes,
            c.put-4.ensures.stored,
            c.put-4.ensures.others,
            (c.put-5.new.bytes, c.put-5.ensures.stored, c.put-5.ensures.others, refl),
          ),
        ),
      ),
    )
    in
    let held = all_hold puts c.args.to.now c.put-5.new.bytes chain refl in
    record {
      opcode = held.0;
      between = held.1.0;
      modifier = held.1.1.0;
      number_there = held.1.1.1.0;
      second_there = held.1.1.1.1.0;
    }
