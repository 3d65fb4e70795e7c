-- What an audit counts.
use Rattle.std.specs.Prelude.{◌≡◌, ℕ, ◌<◌, List, length, sum, slice_index, Option, Some, None, IsSome}
use Rattle.cl_node.specs.Members.{standby_node}
use Rattle.cl_node.specs.Node.{replica_at}
use Rattle.cl_runs.specs.World.{Shape}
use Rattle.cl_store.specs.Live.{HasLive}
use Rattle.cl_system.specs.System.{Core, front, node}
use Rattle.cl_vnode.specs.Replica.{ReplicaState}
use Rattle.cl_world.specs.World.{Moment}

-- the replica of a virtual node that an actor has, where it has one
abbrev pub replica_of : Core → ℕ → Option ReplicaState
replica_of (front state) v = None
replica_of (node state) v = replica_at state v

-- so many records of a virtual node have a value at its primary, which is the replica that the node of its number has
pub record IsLiveAt (core : Core) (v count : ℕ) : Type 0 where
  pub primary : ReplicaState
  pub here : replica_of core v ≡ Some primary
  pub live : HasLive primary.part.stored count

-- how many records have a value over all primaries, how many virtual nodes have a standby, which each has, and how many there are
pub record IsAudited (shape : Shape) (moment : Moment) (audit : ℕ × ℕ × ℕ) : Type 0 where
  -- by virtual node
  pub counts : List ℕ
  pub counted : length counts ≡ shape.nodes
  pub each : (v : ℕ) → v < shape.nodes → IsLiveAt (moment.actors v).core v (slice_index counts v)
  pub live : audit.0 ≡ sum counts
  -- the standby of each is the replica that the node behind has
  pub paired : (v : ℕ) → v < shape.nodes → IsSome (replica_of (moment.actors (standby_node shape.nodes v)).core v)
  pub standbys : audit.1 ≡ shape.nodes
  pub nodes : audit.2 ≡ shape.nodes
