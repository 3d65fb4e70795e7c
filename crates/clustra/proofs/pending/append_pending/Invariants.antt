use Rattle.std.proofs.Common.{◌≡◌, ◌++◌}
use Rattle.cl_schedule.specs.Making.{texts_of}
use Rattle.cl_serial.specs.Transcript.{transcript_of}
use Rattle.clustra.specs.Counting.{pending_until, sessions_in}
use Rattle.clustra.proofs.pending.append_pending.Given as goal

-- the lines of the sessions so far
abbrev pub invariant-loop-index : goal.invariant-loop-index
invariant-loop-index l = record {
  sessions_are : l.sessions.items ≡ sessions_in (texts_of l.lines);
  written : l.text.items ≡ l.initial.text.items ++ pending_until (texts_of l.lines) (transcript_of l.transcript) l.index;
}
