use Rattle.std.proofs.Common.{◌≡◌, fold, length}
use Rattle.std.specs.Vec.Iter.{into_iter_items}
use Rattle.cl_serial.specs.Exchanges.{pair_up, in_turn}
use Rattle.cl_serial.specs.Transactions.{session_step}
use Rattle.cl_serial.specs.Gathering.{session_in}
use Rattle.cl_serial.proofs.transactions.cut_session.Given as goal

-- what is left of the questions and answers takes the session to the one of the log
abbrev pub invariant-loop-question : goal.invariant-loop-question
invariant-loop-question l = fold session_step l.session (in_turn (pair_up (into_iter_items l.questions) (into_iter_items l.answers))) ≡ session_in l.fn.log

abbrev pub decreases-loop-question : goal.decreases-loop-question
decreases-loop-question l = length (into_iter_items l.questions)
