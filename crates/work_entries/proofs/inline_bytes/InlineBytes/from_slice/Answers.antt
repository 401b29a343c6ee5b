use Rattle.std.proofs.Common.{length, ap}
use Rattle.work_entries.proofs.Fills.{filled_copy, length_copy}
use Rattle.work_entries.proofs.inline_bytes.InlineBytes.from_slice.Goals as goal

pub invariant_of-result : goal.invariant_of-result
invariant_of-result c =
    let long = ap length c.copy_from_slice.ensures.after in
    let count = length c.args.bytes.now in
    record {
      most = c.requires;
      long = length_copy 60 0 c.copy_from_slice.new.self count long c.requires;
      rest = filled_copy 60 0 c.copy_from_slice.new.self count long c.requires;
    }
