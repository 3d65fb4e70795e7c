use Rattle.std.proofs.Common.{◌≡◌, ℕ, map, take}
use Rattle.cl_serial.specs.Transcript.{transcript_entry}
use Rattle.cl_serial.specs.Gathering.{log_at, log_of}
use Rattle.cl_serial.proofs.gathering.gather_logs.Given as goal

-- the logs are those of the entries so far
abbrev pub invariant-loop-index : goal.invariant-loop-index
invariant-loop-index l = (session : ℕ) → log_at l.logs session ≡ log_of session (map transcript_entry (take l.index l.entry-items))
