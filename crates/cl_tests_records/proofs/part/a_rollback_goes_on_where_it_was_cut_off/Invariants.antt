use Rattle.cl_part.specs.State.{IsBelowNext}
use Rattle.cl_tests_records.proofs.part.a_rollback_goes_on_where_it_was_cut_off.Given as goal

abbrev pub invariant-loop-step : goal.invariant-loop-step
invariant-loop-step g l = IsBelowNext l.part

abbrev pub invariant-loop-step-2 : goal.invariant-loop-step-2
invariant-loop-step-2 g l = IsBelowNext l.part
