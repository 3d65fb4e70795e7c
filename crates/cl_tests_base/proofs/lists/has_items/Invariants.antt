use Rattle.std.proofs.Common.{IfSome}
use Rattle.cl_lists.specs.Arena.{IsInUse}
use Rattle.cl_tests_base.proofs.lists.has_items.Given as goal

abbrev pub invariant-loop-item : goal.invariant-loop-item
invariant-loop-item l = IfSome l.next (λ slot. IsInUse l.arena slot)
