-- The cores of the cluster are the front, and a primary and a standby of each virtual node.
use Rattle.std.specs.Prelude.{◌≡◌, ◌≢◌, ℕ, nat_lt, if◌then◌else◌, List, [], All}
use Rattle.cl_node.specs.Members.{backed_up}
use Rattle.cl_node.specs.Node.{no_replicas, two_replicas}
use Rattle.cl_pairs.specs.Pairs.{PairWorld, pair_world_after}
use Rattle.cl_runs.specs.Queues.{contents_of, QueueWorld, QueueEvent, queue_events_of}
use Rattle.cl_runs.specs.World.{Shape, Run}
use Rattle.cl_steps.specs.declared.actors.TheConstants.{FRONT}
use Rattle.cl_system.specs.System.{Core, front, node, system}
use Rattle.cl_vnode.specs.Replica.{ReplicaState}

-- the core of a node: the primary of the virtual node of its number and the standby of the one before, and none where it is a spare
abbrev pub core_of_node : ℕ → ℕ → ReplicaState → ReplicaState → Core
core_of_node nodes me primary standby = node (record { replicas = if nat_lt me nodes then two_replicas nodes me primary standby else no_replicas })

-- the system of cores and queues is that of the front, of primaries and standbys, and of what is on its way
pub record AreAlike (shape : Shape) (cores : QueueWorld Core) (pairs : PairWorld) : Type 0 where
  pub front : cores.cores FRONT ≡ front pairs.front
  pub nodes : (actor : ℕ) → actor ≢ FRONT → cores.cores actor ≡ core_of_node shape.nodes actor (pairs.primaries actor) (pairs.standbys (backed_up shape.nodes actor))
  -- nobody has noted anything of the roster
  pub noted : (actor : ℕ) → cores.noted actor ≡ []
  pub mail : (from to : ℕ) → contents_of (cores.queues from to) ≡ pairs.mail from to
  pub tags : (from to : ℕ) → All (λ message. message.tag ≡ 0) (cores.queues from to)
  -- nobody has stopped
  pub roster : cores.roster ≡ []
  pub history : cores.history ≡ pairs.history
  pub lines : cores.lines ≡ pairs.lines

-- what a run of the cluster is for queues, and so for pairs
abbrev pub pair_events_of : Shape → Run → List QueueEvent
pair_events_of shape run = queue_events_of (system shape.nodes) shape run

-- the pairs after a run
abbrev pub pairs_after : Shape → Run → PairWorld
pairs_after shape run = pair_world_after shape (pair_events_of shape run)
