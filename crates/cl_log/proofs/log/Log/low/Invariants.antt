use Rattle.std.proofs.Common.{◌≡◌, drop}
use Rattle.std.specs.List.{find}
use Rattle.cl_log.specs.Kind.{txn_of}
use Rattle.cl_log.specs.Open.{is_open}
use Rattle.cl_log.specs.SlotList.{entries_in}
use Rattle.cl_log.proofs.log.Log.low.Given as goal

-- no record before the index is of an open transaction
abbrev pub invariant-loop-index : goal.invariant-loop-index
invariant-loop-index l =
    find (λ entry. is_open (entries_in l.self.records) (txn_of entry.content)) (entries_in l.self.records)
    ≡ find (λ entry. is_open (entries_in l.self.records) (txn_of entry.content)) (drop l.index (entries_in l.self.records))
