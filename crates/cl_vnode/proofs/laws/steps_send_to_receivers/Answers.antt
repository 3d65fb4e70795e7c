use Rattle.cl_vnode.proofs.Marks.{marks_are_alike}
use Rattle.cl_vnode.proofs.Receivers.{steps_send_to_receivers}
use Rattle.cl_vnode.proofs.laws.steps_send_to_receivers.Goals as goal

pub returns-clause-receivers : goal.returns-clause-receivers
returns-clause-receivers c = steps_send_to_receivers

pub returns-clause-marks : goal.returns-clause-marks
returns-clause-marks c = marks_are_alike
