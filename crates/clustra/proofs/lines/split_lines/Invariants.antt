use Rattle.std.proofs.Common.{◌≡◌, ◌++◌, length, map}
use Rattle.cl_schedule.specs.Making.{texts_of}
use Rattle.cl_serial.specs.Bytes.{kept_line, whole_lines}
use Rattle.clustra.specs.Run.{texts_in}
use Rattle.clustra.proofs.lines.split_lines.Given as goal

-- the lines so far and those of the rest are all lines
abbrev pub invariant-loop-rest : goal.invariant-loop-rest
invariant-loop-rest l = texts_of l.lines ++ map kept_line (whole_lines l.rest) ≡ texts_in l.fn.bytes

abbrev pub decreases-loop-rest : goal.decreases-loop-rest
decreases-loop-rest l = length l.rest
