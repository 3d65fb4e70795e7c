use Rattle.cl_commit.proofs.Events.{whole_at_first, events_keep_whole, aborted_stay_out}
use Rattle.cl_commit.proofs.Reordering.{reorder_keeps_whole, firm_runs_are_whole}
use Rattle.cl_commit.proofs.laws.commits_are_whole.Goals as goal

pub returns-clause-first : goal.returns-clause-first
returns-clause-first c = whole_at_first

pub returns-clause-keeps : goal.returns-clause-keeps
returns-clause-keeps c = events_keep_whole

pub returns-clause-aborted : goal.returns-clause-aborted
returns-clause-aborted c = aborted_stay_out

pub returns-clause-reorder : goal.returns-clause-reorder
returns-clause-reorder c = reorder_keeps_whole

pub returns-clause-runs : goal.returns-clause-runs
returns-clause-runs c = firm_runs_are_whole
