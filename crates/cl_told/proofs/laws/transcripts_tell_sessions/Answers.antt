use Rattle.cl_told.proofs.Events.{told_at_first, events_keep_told}
use Rattle.cl_told.proofs.Runs.{reorder_keeps_told, firm_runs_are_told}
use Rattle.cl_told.proofs.laws.transcripts_tell_sessions.Goals as goal

pub returns-clause-first : goal.returns-clause-first
returns-clause-first c = told_at_first

pub returns-clause-keeps : goal.returns-clause-keeps
returns-clause-keeps c = events_keep_told

pub returns-clause-reorder : goal.returns-clause-reorder
returns-clause-reorder c = reorder_keeps_told

pub returns-clause-runs : goal.returns-clause-runs
returns-clause-runs c = firm_runs_are_told
