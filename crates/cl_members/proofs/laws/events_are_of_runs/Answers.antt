use Rattle.cl_members.proofs.Marks.{marks_are_of_runs}
use Rattle.cl_members.proofs.Quiet.{runs_are_quiet}
use Rattle.cl_members.proofs.laws.events_are_of_runs.Goals as goal

pub returns-clause-quiet : goal.returns-clause-quiet
returns-clause-quiet c = runs_are_quiet

pub returns-clause-marks : goal.returns-clause-marks
returns-clause-marks c = marks_are_of_runs
