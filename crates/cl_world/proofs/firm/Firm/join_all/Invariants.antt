use Rattle.std.proofs.Common.{◌≡◌, ◌+◌, ◌≤◌, length, take}
use Rattle.cl_runs.specs.World.{with_firm}
use Rattle.cl_world.specs.FirmRoom.{firm_in, firm_room}
use Rattle.cl_world.proofs.firm.Firm.join_all.Given as goal

abbrev pub invariant-loop-txn : goal.invariant-loop-txn
invariant-loop-txn l = (firm_in l.self ≡ with_firm (firm_in l.initial.self) (take l.txn-index l.txns)) × (length l.txns ≤ firm_room l.self + l.txn-index)
