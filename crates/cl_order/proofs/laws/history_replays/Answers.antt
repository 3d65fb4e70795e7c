use Rattle.cl_order.proofs.Readings.{members_stand_once, history_replays}
use Rattle.cl_order.proofs.laws.history_replays.Goals as goal

pub returns-clause-once : goal.returns-clause-once
returns-clause-once c = members_stand_once

pub returns-clause-replays : goal.returns-clause-replays
returns-clause-replays c = history_replays
