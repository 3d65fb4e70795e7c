use Rattle.cl_shown.proofs.Runs.{session_has_outstanding, firm_runs_are_well_shown}
use Rattle.cl_shown.proofs.laws.transcripts_are_well_shown.Goals as goal

pub returns-clause-outstanding : goal.returns-clause-outstanding
returns-clause-outstanding c = session_has_outstanding

pub returns-clause-shown : goal.returns-clause-shown
returns-clause-shown c = firm_runs_are_well_shown
