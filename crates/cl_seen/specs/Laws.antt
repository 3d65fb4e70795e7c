-- What a run of pairs is for the firm system.
use Rattle.std.specs.Prelude.{◌≡◌, ℕ, ◌<◌, List, All}
use Rattle.cl_paired.specs.Paired.{at_once, IsPaired}
use Rattle.cl_pairs.specs.Laws.{OfPairRuns}
use Rattle.cl_pairs.specs.Pairs.{IsPairRun, pair_world_after, MayPairs, PairEventFits}
use Rattle.cl_roster.specs.Roster.{IsClusterSize}
use Rattle.cl_runs.specs.Queues.{QueueEvent}
use Rattle.cl_runs.specs.World.{Shape}
use Rattle.cl_seen.specs.Seen.{seen_mail, seen_events}
use Rattle.cl_seen.specs.Ways.{IsPairAddressed}
use Rattle.cl_system.specs.Firm.{firm_world_after, IsFirmRun}
use Rattle.cl_system.specs.Replicas.{own_primary}

-- a run of pairs is one of the firm system, with the same front, history, logs and lines
pub record IsSeen (shape : Shape) (events : List QueueEvent) : Type 0 where
  pub firm : IsFirmRun shape (seen_events shape events)
  pub front : (pair_world_after shape events).front ≡ (firm_world_after shape (seen_events shape events)).world.front
  pub history : (pair_world_after shape events).history ≡ (firm_world_after shape (seen_events shape events)).firm
  pub lines : (pair_world_after shape events).lines ≡ (firm_world_after shape (seen_events shape events)).world.lines
  -- each primary, seen without its standby, is the replica of the firm system
  pub replicas : (v : ℕ) → v < shape.nodes → at_once own_primary ((pair_world_after shape events).primaries v) ≡ (firm_world_after shape (seen_events shape events)).world.replicas v
  pub paired : (v : ℕ) → v < shape.nodes → IsPaired ((pair_world_after shape events).primaries v)
  -- what is on its way, and what is still to be told, are on their way there
  pub mail : (from to : ℕ) → (firm_world_after shape (seen_events shape events)).world.mail from to ≡ seen_mail shape.nodes (pair_world_after shape events) from to

-- so is every run of pairs
abbrev pub PairRunsAreSeen : Type 0
PairRunsAreSeen = OfPairRuns IsSeen

-- and what may happen next fits
abbrev pub PairInputsFit : Type 0
PairInputsFit = (shape : Shape) (events : List QueueEvent) (event : QueueEvent) → IsClusterSize shape.nodes shape.spares → IsPairRun shape events → MayPairs (pair_world_after shape events) event →
    PairEventFits shape (pair_world_after shape events) event

-- each message on its way goes between the actors that its kind names
abbrev pub PairMessagesAreAddressed : Type 0
PairMessagesAreAddressed = OfPairRuns (λ shape events. (from to : ℕ) → All (IsPairAddressed shape.nodes from to) ((pair_world_after shape events).mail from to))
