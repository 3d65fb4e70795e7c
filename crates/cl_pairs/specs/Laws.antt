-- The laws of runs of pairs.
use Rattle.std.specs.Prelude.{◌≡◌, ℕ, ◌+◌, List, []}
use Rattle.cl_node.specs.Members.{standby_node}
use Rattle.cl_roster.specs.Roster.{IsClusterSize}
use Rattle.cl_runs.specs.Queues.{QueueEvent}
use Rattle.cl_runs.specs.World.{Shape}
use Rattle.cl_pairs.specs.Pairs.{PairWorld, IsPairRun, pair_world_after}
use Rattle.cl_pairs.specs.Streams.{IsOneLog, AreOneLog}

-- the statement holds of every run of pairs of a cluster of a lawful size
abbrev pub OfPairRuns : (Shape → List QueueEvent → Type 0) → Type 0
OfPairRuns Holds = (shape : Shape) (events : List QueueEvent) → IsClusterSize shape.nodes shape.spares → IsPairRun shape events → Holds shape events

-- each virtual node is one log
abbrev pub PairsAreOneLog : Type 0
PairsAreOneLog = OfPairRuns (λ shape events. AreOneLog shape (pair_world_after shape events))

-- primary and standby of a virtual node have the same log, store, locks and decisions
pub record AreEqual (shape : Shape) (pairs : PairWorld) (v : ℕ) : Type 0 where
  pub part : (pairs.primaries v).part ≡ (pairs.standbys v).part
  pub decisions : (pairs.primaries v).decisions ≡ (pairs.standbys v).decisions

-- so it is of every virtual node to whose standby nothing is on its way, as in each quiet moment
abbrev pub PairsAgree : Type 0
PairsAgree = (shape : Shape) (pairs : PairWorld) (v : ℕ) → IsOneLog shape.nodes pairs v → pairs.mail v (standby_node shape.nodes v) ≡ [] → AreEqual shape pairs v

-- where nothing is on its way between primary and standby, all of the log is acknowledged
abbrev pub AllIsAcknowledged : Type 0
AllIsAcknowledged = (shape : Shape) (pairs : PairWorld) (v : ℕ) → IsOneLog shape.nodes pairs v →
    pairs.mail v (standby_node shape.nodes v) ≡ [] → pairs.mail (standby_node shape.nodes v) v ≡ [] → (pairs.primaries v).modes.acked + 1 ≡ (pairs.primaries v).part.next
