use Rattle.cl_tests_world.specs.Ready.{IsReady}
use Rattle.cl_tests_world.proofs.running.all_come_but_acks.Given as goal

abbrev pub invariant-loop : goal.invariant-loop
invariant-loop g l = IsReady l.world
