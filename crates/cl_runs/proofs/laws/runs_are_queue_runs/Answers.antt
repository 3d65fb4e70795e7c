use Rattle.cl_runs.proofs.Runs.{runs_are_queue_runs, events_are_queue_events, accepted_is_head}
use Rattle.cl_runs.proofs.laws.runs_are_queue_runs.Goals as goal

pub returns-clause-runs : goal.returns-clause-runs
returns-clause-runs g c = runs_are_queue_runs

pub returns-clause-events : goal.returns-clause-events
returns-clause-events g c = events_are_queue_events

pub returns-clause-head : goal.returns-clause-head
returns-clause-head g c = accepted_is_head
