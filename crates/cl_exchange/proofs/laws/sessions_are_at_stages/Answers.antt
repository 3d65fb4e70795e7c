use Rattle.cl_exchange.proofs.Firm.{firm_runs_are_sound}
use Rattle.cl_exchange.proofs.Reordering.{reorder_keeps_sound}
use Rattle.cl_exchange.proofs.Runs.{sound_at_first, events_fit, events_keep_sound}
use Rattle.cl_exchange.proofs.laws.sessions_are_at_stages.Goals as goal

pub returns-clause-first : goal.returns-clause-first
returns-clause-first c = sound_at_first

pub returns-clause-fits : goal.returns-clause-fits
returns-clause-fits c = events_fit

pub returns-clause-keeps : goal.returns-clause-keeps
returns-clause-keeps c = events_keep_sound

pub returns-clause-reorder : goal.returns-clause-reorder
returns-clause-reorder c = reorder_keeps_sound

pub returns-clause-runs : goal.returns-clause-runs
returns-clause-runs c = firm_runs_are_sound
