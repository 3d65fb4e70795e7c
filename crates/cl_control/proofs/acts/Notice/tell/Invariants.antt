use Rattle.std.proofs.Common.{◌≡◌, ◌++◌, map}
use Rattle.cl_types.specs.GrowingList.{items}
use Rattle.cl_control.specs.Calls.{act_of}
use Rattle.cl_control.specs.State.{ascending}
use Rattle.cl_control.proofs.acts.Notice.tell.Given as goal

abbrev pub invariant-loop-v : goal.invariant-loop-v
invariant-loop-v l = items l.acts ≡ items l.initial.acts ++ map (act_of l.self l.txn) (ascending l.v l.participants)
