-- What contracts see of a log holds together.
use Rattle.std.proofs.Common.{◌≡◌, ◌+◌, ◌≤◌, length, ap, arith}
use Rattle.cl_log.specs.declared.log.Log.{Log}
use Rattle.cl_log.specs.LogEntry.{IsNumberedFrom}
use Rattle.cl_log.specs.Log.{entries, first_kept, next_number}
use Rattle.cl_log.specs.Slots.{contents}
use Rattle.cl_log.proofs.Numbered.{IsNumberedFrom-numbered}
use Rattle.cl_log.proofs.SlotFacts.{length-listed}

-- the numbers of the records count up by one from the first that is kept
pub IsNumberedFrom-entries : (log : Log) → IsNumberedFrom (first_kept log) (entries log)
unfolding first_kept entries
IsNumberedFrom-entries log = IsNumberedFrom-numbered log.records.first (contents log.records.slots.items)

-- up to the next number
pub first_kept-length : (log : Log) → first_kept log + length (entries log) ≡ next_number log
unfolding first_kept entries next_number
first_kept-length log = ap (λ n. log.records.first + n) (length-listed log.records.first log.records.slots.items)

pub one-le-first_kept : (log : Log) → 1 ≤ first_kept log
unfolding first_kept
one-le-first_kept log = log.records.counts_from_one

pub one-le-next_number : (log : Log) → 1 ≤ next_number log
unfolding next_number
one-le-next_number log = let one = log.records.counts_from_one in omega (arith, one)
