use Rattle.std.proofs.Common.{◌≡◌, take}
use Rattle.cl_types.specs.GrowingList.{items}
use Rattle.cl_wire.proofs.copies.copy_txns.Given as goal

abbrev pub invariant-loop-txn : goal.invariant-loop-txn
invariant-loop-txn l = items l.copy ≡ take l.txn-index l.txns
