use Rattle.cl_log.proofs.Rest.{rest_after_undo, rest_after_undo-other}
use Rattle.cl_log.proofs.laws.undo_takes_first.Goals as goal

pub returns : goal.returns
returns c = λ entries n txn first others entry numbers step other.
    (rest_after_undo entries n numbers txn first others step.rest entry step.now step.undoes, rest_after_undo-other entries n numbers txn first others step.rest entry step.now step.undoes other)
