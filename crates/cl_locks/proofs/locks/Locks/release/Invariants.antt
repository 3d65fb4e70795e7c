use Rattle.std.proofs.Common.{◌≡◌, length}
use Rattle.cl_lists.specs.declared.slots.Side.TheVariants.{Y}
use Rattle.cl_lists.specs.Arena.{list_of}
use Rattle.cl_types.specs.Places.{Place}
use Rattle.cl_types.specs.Transactions.{same_txn}
use Rattle.cl_locks.specs.Grants.{without_txn}
use Rattle.cl_locks.specs.Listed.{txn_list}
use Rattle.cl_locks.specs.Table.{grants_at}
use Rattle.cl_locks.proofs.Walks.{HasPassed, FindsNone, from_slot}
use Rattle.cl_locks.proofs.locks.Locks.release.Given as goal

-- the grants of other transactions stay, and no lock before is of the transaction
abbrev pub invariant-loop-next : goal.invariant-loop-next
invariant-loop-next l = record {
  others : (place : Place) → without_txn l.txn (grants_at l.self place) ≡ without_txn l.txn (grants_at l.fn.self place);
  cleared : HasPassed l.self.granted (FindsNone (λ grant. same_txn l.txn grant.txn)) (list_of l.self.granted Y (txn_list l.txn)) l.next;
}

-- each step leaves one slot less
abbrev pub decreases-loop-next : goal.decreases-loop-next
decreases-loop-next l = length (from_slot (list_of l.self.granted Y (txn_list l.txn)) l.next)
