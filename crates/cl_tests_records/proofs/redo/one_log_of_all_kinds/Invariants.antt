use Rattle.std.proofs.Common.{◌≡◌, ◌≢◌, false, None}
use Rattle.cl_types.specs.declared.operations.TxnId.{TxnId}
use Rattle.cl_types.specs.Places.{Place}
use Rattle.cl_log.specs.Log.{entries}
use Rattle.cl_log.specs.Open.{has_ended}
use Rattle.cl_locks.specs.Table.{held}
use Rattle.cl_tests_records.specs.declared.redo.TheConstants.{TXN}
use Rattle.cl_tests_records.proofs.redo.one_log_of_all_kinds.Given as goal

abbrev pub invariant-loop-number : goal.invariant-loop-number
invariant-loop-number g l = (has_ended (entries l.replica.log) TXN ≡ false)
    × ((other : TxnId) (place : Place) → other ≢ TXN → held l.replica.locks other place ≡ None)
