use Rattle.std.proofs.Common.{length, take, ◌-◌, ◌≤◌}
use Rattle.std.specs.Io.KnownBytes.{Appends}
use Rattle.s2_outside.proofs.streams.write_all.Given as goal

-- what is done is written, and nothing else
abbrev pub invariant-loop-done : goal.invariant-loop-done
invariant-loop-done g l =
    record {
      within : l.done ≤ length l.bytes;
      wrote : Appends (g.W.Sink.taken l.fn.out) (g.W.Sink.taken l.out) (take l.done l.bytes);
      later : g.W.Sink.faults l.fn.out ≤ g.W.Sink.faults l.out;
    }

abbrev pub decreases-loop-done : goal.decreases-loop-done
decreases-loop-done g l = length l.bytes - l.done
