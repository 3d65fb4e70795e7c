-- Whose stop may be noted is an actor.
use Rattle.std.proofs.Common.{ℕ, ◌<◌, List, arith}
use Rattle.cl_types.proofs.PlacementLaws.{node_count-bounds}
use Rattle.cl_roster.specs.declared.entry.RosterEntry.{RosterEntry}
use Rattle.cl_roster.specs.declared.entry.RosterEntry.TheVariants.{Stopped}
use Rattle.cl_roster.specs.Roster.{IsClusterSize, IsLawfulEntry}
use Rattle.cl_roster.proofs.Verdict.{IsAdmitted-from}
use Rattle.cl_endpoint.specs.declared.limits.TheConstants.{ACTORS}

pub stopped_is_actor : (nodes spares : ℕ) (entries : List RosterEntry) (n : ℕ) → IsClusterSize nodes spares → IsLawfulEntry nodes spares entries (Stopped n) →
    n < ACTORS
stopped_is_actor nodes spares entries n size lawful = omega (
  arith,
  node_count-bounds nodes size.counted,
  size.few_spares,
  (IsAdmitted-from nodes spares entries n lawful).known,
)
