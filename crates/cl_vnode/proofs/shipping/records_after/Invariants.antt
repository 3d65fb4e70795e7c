use Rattle.std.proofs.Common.{◌≡◌, ◌≤◌, max, map}
use Rattle.cl_log.specs.Log.{entries}
use Rattle.cl_types.specs.GrowingList.{items}
use Rattle.cl_vnode.specs.Step.{entries_between, log_message}
use Rattle.cl_vnode.proofs.shipping.records_after.Given as goal

-- the records up to the number are shipped
abbrev pub invariant-loop-number : goal.invariant-loop-number
invariant-loop-number l = record {
  shipped : items l.sends ≡ map (log_message l.standby l.v) (entries_between l.last l.number (entries l.log));
  within : l.number ≤ max l.last l.number-end;
}
