use Rattle.std.proofs.Common.{arith, rules, subst}
use Rattle.std.specs.Io.KnownBytes.{Appends}
use Rattle.std.proofs.KnownBytes.{Appends-trans}
use Rattle.byte_streams.proofs.Pieces.{take-rest}
use Rattle.byte_streams.proofs.writing.write_all.Goals as goal

pub loop-written-preserved : goal.loop-written-preserved
loop-written-preserved g c =
    let so_far = c.loop-written.invariant in
    let wrote = c.in_ok-written.ensures in
    record {
      within = search rules;
      takes = subst (Appends _ _) (take-rest _ _ _) (Appends-trans _ _ _ _ _ so_far.takes wrote.takes);
      never_falls = omega (arith, wrote.never_falls);
    }
