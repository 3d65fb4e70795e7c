use Rattle.std.proofs.Common.{◌≡◌, take}
use Rattle.std.specs.List.{filter}
use Rattle.cl_types.specs.GrowingList.{items}
use Rattle.cl_log.specs.LogEntry.{numbered}
use Rattle.cl_log.specs.Open.{is_open, txns_of}
use Rattle.cl_log.specs.Slots.{contents}
use Rattle.cl_log.specs.SlotList.{entries_in}
use Rattle.cl_log.proofs.log.Log.unended.Given as goal

-- the open ones of the transactions so far
abbrev pub invariant-loop-slot : goal.invariant-loop-slot
invariant-loop-slot l =
    items l.txns ≡ filter (is_open (entries_in l.self.records)) (txns_of (numbered l.self.records.first (take l.slot-index (contents l.self.records.slots.items))))
