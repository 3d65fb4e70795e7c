use Rattle.cl_tests_world.specs.Ready.{IsReady}
use Rattle.cl_tests_world.proofs.audited.counts.Given as goal

abbrev pub invariant-loop-row : goal.invariant-loop-row
invariant-loop-row g l = IsReady l.world
