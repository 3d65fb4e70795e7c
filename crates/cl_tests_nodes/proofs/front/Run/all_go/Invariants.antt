use Rattle.cl_tests_nodes.specs.Run.{HasStepped}
use Rattle.cl_tests_nodes.proofs.front.Run.all_go.Given as goal

abbrev pub invariant-loop-row : goal.invariant-loop-row
invariant-loop-row g l = HasStepped l.self.core l.self.steps
