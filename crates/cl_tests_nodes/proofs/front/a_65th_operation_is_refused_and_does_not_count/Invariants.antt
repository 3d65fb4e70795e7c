use Rattle.cl_tests_nodes.specs.Run.{HasStepped}
use Rattle.cl_tests_nodes.proofs.front.a_65th_operation_is_refused_and_does_not_count.Given as goal

abbrev pub invariant-loop-number : goal.invariant-loop-number
invariant-loop-number g l = HasStepped l.run.core l.run.steps
