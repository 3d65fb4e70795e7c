-- What the actors of a run have, and what the run was fed.
use Rattle.std.specs.Prelude.{◌≡◌, ℕ, ◌<◌, List, [], ◌∷◌, Option, Some, None}
use Rattle.std.specs.List.{flat_map}
use Rattle.cl_node.specs.Members.{standby_node}
use Rattle.cl_node.specs.Node.{replica_at}
use Rattle.cl_runs.specs.World.{Shape, Happening, feed, Run, world_after}
use Rattle.cl_serial.specs.Transcript.{TranscriptEntry}
use Rattle.cl_steps.specs.declared.actors.TheConstants.{FRONT}
use Rattle.cl_system.specs.System.{Core, front, node, transcript_in, system}
use Rattle.cl_types.specs.declared.operations.TxnId.{TxnId}
use Rattle.cl_vnode.specs.Replica.{ReplicaState}

-- the transcript of a run: that of its front
abbrev pub transcript_after : Shape → Run → List TranscriptEntry
transcript_after shape run = transcript_in ((world_after (system shape.nodes) shape run).actors FRONT).core

-- the history of a run
abbrev pub history_after : Shape → Run → List TxnId
history_after shape run = (world_after (system shape.nodes) shape run).history

-- the replica of a virtual node that an actor has, if it has one
abbrev pub replica_in : Core → ℕ → Option ReplicaState
replica_in (front state) v = None
replica_in (node state) v = replica_at state v

-- after a run the primary of a virtual node, which is the node of its number, has this replica of it
pub record IsReplicaAfter (shape : Shape) (run : Run) (v : ℕ) (replica : ReplicaState) : Type 0 where
  pub below : v < shape.nodes
  pub has : replica_in ((world_after (system shape.nodes) shape run).actors v).core v ≡ Some replica

-- and its standby, which is the node behind it, this one
pub record IsStandbyAfter (shape : Shape) (run : Run) (v : ℕ) (replica : ReplicaState) : Type 0 where
  pub below : v < shape.nodes
  pub has : replica_in ((world_after (system shape.nodes) shape run).actors (standby_node shape.nodes v)).core v ≡ Some replica

-- the line that an event feeds, with its number
abbrev pub feeds_of : Happening → List (ℕ × List ℕ)
feeds_of (feed number text said) = (number, text) ∷ []
feeds_of other = []

-- the lines that a run feeds
abbrev pub feeds_in : Run → List (ℕ × List ℕ)
feeds_in run = flat_map (λ event. feeds_of event.0) run
