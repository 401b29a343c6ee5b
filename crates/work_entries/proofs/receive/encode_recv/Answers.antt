use Rattle.work_entries.specs.Receive.{room_of}
use Rattle.work_entries.proofs.Receiving.{ended}
use Rattle.work_entries.proofs.receive.encode_recv.Goals as goal

pub returns-then-len-room_of-clause-spelled : goal.returns-then-len-room_of-clause-spelled
returns-then-len-room_of-clause-spelled c =
    ended c.args.sges.now (room_of c.args.stride) c.put_segments.new.words c.put_unit.new.words c.segment_unit.result c.requires.room c.requires.real
    (rw c.as_slice.ensures at c.put_segments.ensures.stored)
    (rw c.len-then-len-room_of.ensures at c.put_unit.ensures.stored)
    c.segment_unit.ensures
    (rw c.len-then-len-room_of.ensures at c.put_unit.ensures.others)
