use Rattle.work_entries.specs.Receive.{room_of}
use Rattle.work_entries.proofs.Receiving.{one_list}
use Rattle.work_entries.proofs.receive.decode_recv.Goals as goal

pub returns-clause-only : goal.returns-clause-only
returns-clause-only c = λ sges is. one_list c.segments_in.result sges (room_of c.args.stride) c.args.w.now (rw c.room_of.ensures.value at c.segments_in.ensures) is
