use Rattle.cl_log.proofs.Beginnings.{HasNoConflict-beginning}
use Rattle.cl_log.proofs.Conflicts.{found_free}
use Rattle.cl_log.proofs.laws.lawful_logs_have_no_conflict.Goals as goal

pub returns-clause-beginnings : goal.returns-clause-beginnings
returns-clause-beginnings c = HasNoConflict-beginning

pub returns-clause-free : goal.returns-clause-free
returns-clause-free c = found_free
