use Rattle.run_bench.specs.Ready.{IsReady}
use Rattle.run_bench.proofs.make_run.Given as goal

-- the world is ready for the next part
abbrev pub invariant-loop-part : goal.invariant-loop-part
invariant-loop-part g l = IsReady l.world
