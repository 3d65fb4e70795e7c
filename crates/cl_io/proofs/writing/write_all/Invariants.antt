use Rattle.std.proofs.Common.{◌≡◌, ◌≤◌, ◌-◌, length, take}
use Rattle.std.specs.Io.KnownBytes.{append_known}
use Rattle.cl_io.proofs.writing.write_all.Given as goal

-- what was done is written, and there was no fault
abbrev pub invariant-loop-done : goal.invariant-loop-done
invariant-loop-done g l =
    record {
      within : l.done ≤ length l.piece;
      written : g.K.Sink.written l.sink ≡ append_known (g.K.Sink.written l.initial.sink) (take l.done l.piece);
      unfaulted : g.K.Sink.faults l.sink ≡ g.K.Sink.faults l.initial.sink;
    }

abbrev pub decreases-loop-done : goal.decreases-loop-done
decreases-loop-done g l = length l.piece - l.done
