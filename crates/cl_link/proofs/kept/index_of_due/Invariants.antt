use Rattle.std.proofs.Common.{◌≤◌}
use Rattle.cl_link.specs.Kept.{due_index}
use Rattle.cl_link.proofs.kept.index_of_due.Given as goal

abbrev pub invariant-loop-index : goal.invariant-loop-index
invariant-loop-index g l = l.index ≤ due_index l.kept.items
