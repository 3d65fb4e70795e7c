use Rattle.cl_order.proofs.Readings.{members_hold_locks, holders_asked}
use Rattle.cl_order.proofs.laws.members_hold_locks.Goals as goal

pub returns-clause-members : goal.returns-clause-members
returns-clause-members c = members_hold_locks

pub returns-clause-holders : goal.returns-clause-holders
returns-clause-holders c = holders_asked
