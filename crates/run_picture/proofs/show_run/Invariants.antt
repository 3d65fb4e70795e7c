use Rattle.run_picture.specs.Ready.{IsReady}
use Rattle.run_picture.proofs.show_run.Given as goal

-- the world is ready for the next line
abbrev pub invariant-loop-line : goal.invariant-loop-line
invariant-loop-line l = IsReady l.world
