use Rattle.std.proofs.Common.{◌≡◌}
use Rattle.cl_tests_base.proofs.roster.agrees.Given as goal

abbrev pub invariant-loop-turn : goal.invariant-loop-turn
invariant-loop-turn l = (l.roster.nodes ≡ l.run.nodes) × (l.roster.spares ≡ l.run.spares)
