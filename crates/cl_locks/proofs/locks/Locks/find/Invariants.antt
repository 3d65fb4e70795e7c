use Rattle.std.proofs.Common.{◌≡◌, Bool, length}
use Rattle.std.specs.Fn.{FnReturnsAt}
use Rattle.cl_lists.specs.declared.slots.Side.TheVariants.{X}
use Rattle.cl_lists.specs.Arena.{list_of}
use Rattle.cl_locks.specs.Grants.{Grant}
use Rattle.cl_locks.specs.Listed.{place_list}
use Rattle.cl_locks.proofs.Walks.{HasPassed, FindsNone, from_slot}
use Rattle.cl_locks.proofs.locks.Locks.find.Given as goal

-- no lock before meets the test
abbrev pub invariant-loop-next : goal.invariant-loop-next
invariant-loop-next g l =
    HasPassed l.self.granted (λ grants. (test : Grant → Bool) → ((grant : Grant) (answer : Bool) → FnReturnsAt g.F.Fn l.meets grant answer → answer ≡ test grant) → FindsNone test grants) (list_of l.self.granted X (place_list l.key)) l.next

-- each step leaves one slot less
abbrev pub decreases-loop-next : goal.decreases-loop-next
decreases-loop-next g l = length (from_slot (list_of l.self.granted X (place_list l.key)) l.next)
