use Rattle.std.proofs.Common.{length}
use Rattle.cl_front.proofs.Turns.{HasTurned}
use Rattle.cl_front.proofs.session.Session.take_turns.Given as goal
use Rattle.cl_actor.specs.Core.{noted_of}
use Rattle.cl_steps.specs.Steps.{step_of}

abbrev pub invariant-loop-command : goal.invariant-loop-command
invariant-loop-command l =
    HasTurned (noted_of l.roster) l.number l.initial.self l.initial.recorder (step_of l.initial.steps) l.self l.recorder (step_of l.steps)

abbrev pub decreases-loop-command : goal.decreases-loop-command
decreases-loop-command l = length l.self.waiting
