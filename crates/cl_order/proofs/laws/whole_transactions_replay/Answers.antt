use Rattle.cl_order.proofs.Readings.{whole_replays, whole_on_each, whole_without_operations}
use Rattle.cl_order.proofs.laws.whole_transactions_replay.Goals as goal

pub returns-clause-replays : goal.returns-clause-replays
returns-clause-replays c = whole_replays

pub returns-clause-each : goal.returns-clause-each
returns-clause-each c = whole_on_each

pub returns-clause-elsewhere : goal.returns-clause-elsewhere
returns-clause-elsewhere c = whole_without_operations
