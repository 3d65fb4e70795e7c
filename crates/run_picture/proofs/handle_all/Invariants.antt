use Rattle.run_picture.specs.Ready.{IsReady}
use Rattle.run_picture.proofs.handle_all.Given as goal

-- the world is ready for the next packet
abbrev pub invariant-loop-packet : goal.invariant-loop-packet
invariant-loop-packet l = IsReady l.world
