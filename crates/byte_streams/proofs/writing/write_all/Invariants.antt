use Rattle.std.proofs.Common.{length, take, ◌-◌, ◌≤◌}
use Rattle.std.specs.Io.KnownBytes.{Appends}
use Rattle.byte_streams.proofs.writing.write_all.Given as goal

-- the front part so far was written
abbrev pub invariant-loop-written : goal.invariant-loop-written
invariant-loop-written g l =
    let state = g.K.Sink.state in
    record {
      within : l.written ≤ length l.text;
      takes : Appends (state l.initial.sink).written (state l.sink).written (take l.written l.text);
      never_falls : (state l.initial.sink).faults ≤ (state l.sink).faults;
    }

abbrev pub decreases-loop-written : goal.decreases-loop-written
decreases-loop-written g l = length l.text - l.written
