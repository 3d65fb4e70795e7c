use Rattle.std.proofs.Common.{◌≡◌}
use Rattle.cl_tests_base.proofs.roster.repair_all.Given as goal

abbrev pub invariant-loop-spare : goal.invariant-loop-spare
invariant-loop-spare l = (l.roster.nodes ≡ l.nodes) × (l.roster.spares ≡ l.spares)

abbrev pub invariant-loop-virtual_node : goal.invariant-loop-virtual_node
invariant-loop-virtual_node l = (l.roster.nodes ≡ l.nodes) × (l.roster.spares ≡ l.spares)
