-- What the actors of a run have: the front, and a primary and a standby of each virtual node.
use Rattle.std.proofs.Common.{◌≡◌, ℕ, ◌<◌, refl, sym, ◌∙◌, ap}
use Rattle.cl_cluster.proofs.EveryRun.{runs_are_pair_runs}
use Rattle.cl_cluster.proofs.Nodes.{primary_here, standby_here}
use Rattle.cl_cluster.specs.Alike.{pairs_after}
use Rattle.cl_cluster.specs.Laws.{IsPairRunOf}
use Rattle.cl_front.specs.Front.{is_answered}
use Rattle.cl_members.proofs.Longer.{cores, world_of}
use Rattle.cl_members.specs.Laws.{MembersAreOfPairs}
use Rattle.cl_members.specs.Members.{transcript_after, history_after, replica_in, IsReplicaAfter, IsStandbyAfter}
use Rattle.cl_node.specs.Members.{standby_node}
use Rattle.cl_roster.specs.Roster.{IsClusterSize}
use Rattle.cl_runs.proofs.Runs.{watching_leaves_world}
use Rattle.cl_runs.specs.Queues.{QueueWorld, watched_after, queue_world_of}
use Rattle.cl_runs.specs.World.{Shape, World, Run, IsWideRun}
use Rattle.cl_steps.specs.declared.actors.TheConstants.{FRONT}
use Rattle.cl_system.specs.System.{Core, front, transcript_in, is_core_at_rest}

module _ (shape : Shape) (run : Run) (size : IsClusterSize shape.nodes shape.spares) (wide : IsWideRun (cores shape) shape run) where
  -- the run is one of pairs
  pub pair_run : IsPairRunOf shape run
  pair_run = runs_are_pair_runs shape run size wide

  -- cores and queues after it
  abbrev queues_after : QueueWorld Core
  queues_after = queue_world_of (watched_after (cores shape) shape run)

  -- the core of the front
  front_is : ((world_of shape run).actors FRONT).core ≡ front (pairs_after shape run).front
  front_is = ap (λ (world : World Core). (world.actors FRONT).core) (sym (watching_leaves_world (cores shape) shape run)) ∙ pair_run.alike.front

  -- the transcript of a run
  pub transcript_is : transcript_after shape run ≡ (pairs_after shape run).front.transcript
  transcript_is = ap transcript_in front_is

  -- a front at rest
  pub rest_is : is_core_at_rest FRONT ((world_of shape run).actors FRONT).core ≡ is_answered (pairs_after shape run).front
  rest_is = ap (is_core_at_rest FRONT) front_is

  -- its history
  pub history_is : history_after shape run ≡ (pairs_after shape run).history
  history_is = ap (λ (world : World Core). world.history) (sym (watching_leaves_world (cores shape) shape run)) ∙ pair_run.alike.history

  -- the primary of a virtual node
  pub primary_is : (v : ℕ) → v < shape.nodes → IsReplicaAfter shape run v ((pairs_after shape run).primaries v)
  primary_is v below = record {
    below = below;
    has = ap (λ (world : World Core). replica_in (world.actors v).core v) (sym (watching_leaves_world (cores shape) shape run))
        ∙ primary_here shape size.counted queues_after (pairs_after shape run) pair_run.alike replica_in (λ state n. refl) v below;
  }

  -- its standby
  standby_is : (v : ℕ) → v < shape.nodes → IsStandbyAfter shape run v ((pairs_after shape run).standbys v)
  standby_is v below = record {
    below = below;
    has = ap (λ (world : World Core). replica_in (world.actors (standby_node shape.nodes v)).core v)
        (sym (watching_leaves_world (cores shape) shape run))
        ∙ standby_here shape size.counted queues_after (pairs_after shape run) pair_run.alike replica_in (λ state n. refl) v below;
  }

-- the law
pub members_are_of_pairs : MembersAreOfPairs
members_are_of_pairs shape run size wide = record {
  is = (pair_run shape run size wide).is;
  primaries = primary_is shape run size wide;
  standbys = standby_is shape run size wide;
  history = history_is shape run size wide;
}
