use Rattle.std.proofs.Common.{◌≡◌, ◌++◌, true, map, take, drop}
use Rattle.cl_link.specs.Kept.{with_due}
use Rattle.cl_link.proofs.kept.mark_each_due.Given as goal

abbrev pub invariant-loop-message : goal.invariant-loop-message
invariant-loop-message g l =
    l.messages ≡ map (with_due true) (take l.message-index l.initial.messages) ++ drop l.message-index l.initial.messages
