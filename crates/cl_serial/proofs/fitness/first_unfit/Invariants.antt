use Rattle.cl_serial.specs.Gathering.{commands_at}
use Rattle.cl_serial.proofs.UnfitMembers.{Keeps}
use Rattle.cl_serial.proofs.fitness.first_unfit.Given as goal

-- the members from the index on were met, and the first unfit one of them was found
abbrev pub invariant-loop-index : goal.invariant-loop-index
invariant-loop-index l = Keeps (commands_at l.sessions) l.names l.index l.met l.unfit

abbrev pub decreases-loop-index : goal.decreases-loop-index
decreases-loop-index l = l.index
