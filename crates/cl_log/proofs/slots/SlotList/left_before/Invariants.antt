use Rattle.std.proofs.Common.{suc}
use Rattle.std.specs.Option.{option_map_or}
use Rattle.cl_log.specs.SlotList.{entries_in}
use Rattle.cl_log.proofs.SlotWalks.{IsWalking}
use Rattle.cl_log.proofs.slots.SlotList.left_before.Given as goal

-- no record that was passed is left to undo
abbrev pub invariant-loop-cursor : goal.invariant-loop-cursor
invariant-loop-cursor l = IsWalking (entries_in l.self) l.number l.cursor

-- the numbers go down
abbrev pub decreases-loop-cursor : goal.decreases-loop-cursor
decreases-loop-cursor l = option_map_or suc l.cursor 0
