-- Why a transaction was aborted: each reply ABORTED of a run names a true cause.
use Rattle.std.specs.Prelude.{◌≡◌, ℕ, ◌<◌, ◌≤◌, true, false, [], ◌∷◌, ◌++◌, length, Some}
use Rattle.cl_causes.specs.Causes as causes
use Rattle.cl_causes.specs.Causes.{IsAskOf}
use Rattle.cl_locks.specs.Grants.{first_conflict}
use Rattle.cl_members.specs.Members.{transcript_after, IsReplicaAfter}
use Rattle.cl_order.specs.Operations.{mode_of}
use Rattle.cl_runs.specs.World.{Shape, Run, handle, packet_at, world_after}
use Rattle.cl_system.specs.System.{system}
use Rattle.cl_types.specs.declared.operations.Op.{Op}
use Rattle.cl_types.specs.declared.operations.TxnId.{TxnId}
use Rattle.cl_types.specs.Placement.{virtual_node_of}
use Rattle.cl_types.specs.Places.{Place}
use Rattle.cl_vnode.specs.Replica.{ReplicaState}
use Rattle.cl_wire.specs.Message.{Message, Ask}

-- before this position of the transcript an event with its mark set handled a packet that asks for the transaction; the mark is free
pub record WasShort (shape : Shape) (run : Run) (name : TxnId) (replied : ℕ) : Type 0 where
  pub front : Run
  pub back : Run
  pub actor : ℕ
  pub id : ℕ
  pub packet : Message
  -- an event of the run with the mark
  pub split : run ≡ front ++ (handle actor id, true) ∷ back
  -- in which the packet is handled that asks
  pub handles : packet_at (world_after (system shape.nodes) shape front) id ≡ Some packet
  pub asks : IsAskOf name packet.content
  -- and after which nothing is written yet at this position
  pub before : length (transcript_after shape (front ++ (handle actor id, true) ∷ [])) ≤ replied

-- between these positions of the transcript the operation came to the primary of its place, where the first lock in conflict with it was the holder's
pub record WasHeld (shape : Shape) (run : Run) (name holder : TxnId) (place : Place) (op : Op) (line replied : ℕ) : Type 0 where
  pub front : Run
  pub back : Run
  pub v : ℕ
  pub id : ℕ
  pub packet : Message
  pub number : ℕ
  pub primary : ReplicaState
  -- the virtual node of the place
  pub stands : v ≡ virtual_node_of place.1 shape.nodes
  -- an event of the run at its primary
  pub split : run ≡ front ++ (handle v id, false) ∷ back
  -- in which the packet is handled that asks the operation
  pub handles : packet_at (world_after (system shape.nodes) shape front) id ≡ Some packet
  pub asks : packet.content ≡ Ask v name number place.0 place.1 op
  -- before it the line was read
  pub read : line < length (transcript_after shape front)
  -- and the first lock in conflict was the holder's
  pub at_primary : IsReplicaAfter shape front v primary
  pub refuses : first_conflict primary.part.grants name place (mode_of op) ≡ Some holder
  -- and after it nothing is written yet at this position
  pub before : length (transcript_after shape (front ++ (handle v id, false) ∷ [])) ≤ replied

-- each reply ABORTED of a run answers a command of a transaction, and its cause is true
abbrev pub TrueCauses : Shape → Run → Type 0
TrueCauses shape run = causes.TrueCauses (transcript_after shape run) (WasShort shape run) (WasHeld shape run)
