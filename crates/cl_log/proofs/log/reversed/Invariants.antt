use Rattle.std.proofs.Common.{◌≡◌, ◌++◌, length, reverse}
use Rattle.cl_types.specs.GrowingList.{items}
use Rattle.cl_log.proofs.log.reversed.Given as goal

-- those so far, and then the others from last to first
abbrev pub invariant-loop-number : goal.invariant-loop-number
invariant-loop-number l = reverse (items l.fn.numbers) ≡ items l.turned ++ reverse (items l.numbers)

abbrev pub decreases-loop-number : goal.decreases-loop-number
decreases-loop-number l = length (items l.numbers)
