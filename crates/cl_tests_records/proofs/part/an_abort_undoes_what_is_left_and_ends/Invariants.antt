use Rattle.cl_part.specs.State.{IsBelowNext}
use Rattle.cl_tests_records.proofs.part.an_abort_undoes_what_is_left_and_ends.Given as goal

abbrev pub invariant-loop : goal.invariant-loop
invariant-loop g l = IsBelowNext l.part
