use Rattle.std.proofs.Common.{◌+◌, ◌-◌}
use Rattle.cl_log.specs.Log.{next_number}
use Rattle.cl_log.specs.declared.log.TheConstants.{LOG_NUMBER_MAX}
use Rattle.cl_part.specs.State.{State, IsStateOf, IsBelowNext}
use Rattle.cl_part.proofs.Aborting.{IsRollingBack}
use Rattle.cl_part.proofs.part.Part.abort.Given as goal

abbrev pub invariant-loop-txn : goal.invariant-loop-txn
invariant-loop-txn l = record {
  rolling : (before : State) → IsStateOf l.fn.self before → IsRollingBack l.self before l.txn;
  below : IsBelowNext l.self;
}

abbrev pub decreases-loop-txn : goal.decreases-loop-txn
decreases-loop-txn l = LOG_NUMBER_MAX + 1 - next_number l.self.log
