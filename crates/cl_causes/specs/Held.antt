-- When a lock refused an operation in a firm run.
use Rattle.std.specs.Prelude.{◌≡◌, ℕ, ◌<◌, ◌≤◌, false, List, [], ◌∷◌, ◌++◌, Some, length}
use Rattle.cl_locks.specs.Grants.{first_conflict}
use Rattle.cl_order.specs.Operations.{mode_of}
use Rattle.cl_runs.specs.Queues.{deliver}
use Rattle.cl_runs.specs.World.{Shape}
use Rattle.cl_shown.specs.Laws.{transcript_of_firm}
use Rattle.cl_system.specs.Firm.{FirmEvent, happens, firm_world_after}
use Rattle.cl_types.specs.declared.operations.Op.{Op}
use Rattle.cl_types.specs.declared.operations.TxnId.{TxnId}
use Rattle.cl_types.specs.Placement.{virtual_node_of}
use Rattle.cl_types.specs.Places.{Place}
use Rattle.cl_wire.specs.Message.{Content, Ask}

-- between these positions of the transcript the operation came to the virtual node of its place, where the first lock in conflict with it was the holder's
pub record WasHeld (shape : Shape) (events : List FirmEvent) (name holder : TxnId) (place : Place) (op : Op) (line replied : ℕ) : Type 0 where
  pub front : List FirmEvent
  pub back : List FirmEvent
  pub from : ℕ
  pub v : ℕ
  pub number : ℕ
  pub rest : List Content
  -- the virtual node of the place
  pub stands : v ≡ virtual_node_of place.1 shape.nodes
  -- an event of the run without the mark
  pub split : events ≡ front ++ happens (deliver from v false) ∷ back
  -- in which the message comes that asks the operation
  pub head : (firm_world_after shape front).world.mail from v ≡ Ask v name number place.0 place.1 op ∷ rest
  -- before it the line was read
  pub read : line < length (transcript_of_firm shape front)
  -- and the first lock in conflict was the holder's
  pub refuses : first_conflict ((firm_world_after shape front).world.replicas v).part.grants name place (mode_of op) ≡ Some holder
  -- and after it nothing is written yet at this position
  pub before : length (transcript_of_firm shape (front ++ happens (deliver from v false) ∷ [])) ≤ replied
