use Rattle.cl_part.specs.State.{IsBelowNext}
use Rattle.cl_tests_records.proofs.part.operations_are_answered_locked_and_logged.Given as goal

abbrev pub invariant-loop-name : goal.invariant-loop-name
invariant-loop-name g l = IsBelowNext l.part
