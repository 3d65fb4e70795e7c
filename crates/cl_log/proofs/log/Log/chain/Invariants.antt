use Rattle.std.proofs.Common.{suc}
use Rattle.std.specs.Option.{option_map_or}
use Rattle.cl_types.specs.GrowingList.{items}
use Rattle.cl_log.specs.SlotList.{entries_in}
use Rattle.cl_log.proofs.SlotWalks.{HasGathered}
use Rattle.cl_log.proofs.log.Log.chain.Given as goal

-- the numbers so far are the last ones, from the last on
abbrev pub invariant-loop-cursor : goal.invariant-loop-cursor
invariant-loop-cursor l = HasGathered (entries_in l.self.records) l.fn.txn (items l.backward) l.cursor

-- the numbers go down
abbrev pub decreases-loop-cursor : goal.decreases-loop-cursor
decreases-loop-cursor l = option_map_or suc l.cursor 0
