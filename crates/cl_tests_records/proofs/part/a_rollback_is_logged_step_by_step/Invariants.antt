use Rattle.cl_part.specs.State.{IsBelowNext}
use Rattle.cl_tests_records.proofs.part.a_rollback_is_logged_step_by_step.Given as goal

abbrev pub invariant-loop-wanted : goal.invariant-loop-wanted
invariant-loop-wanted g l = IsBelowNext l.part
