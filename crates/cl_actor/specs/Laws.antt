-- The laws of what actors have noted.
use Rattle.std.specs.Prelude.{ℕ, ◌<◌}
use Rattle.cl_actor.specs.Core.{Noted, primary_in}
use Rattle.cl_endpoint.specs.declared.limits.TheConstants.{ACTORS}
use Rattle.cl_roster.specs.Roster.{IsClusterSize, IsLawfulRoster}

-- what was noted is the lawful roster of a cluster
pub record IsLawfullyNoted (noted : Noted) : Type 0 where
  pub size : IsClusterSize noted.nodes noted.spares
  pub lawful : IsLawfulRoster noted.nodes noted.spares noted.entries

-- by what was lawfully noted, the primary of each virtual node is an actor
abbrev pub PrimariesAreActors : Type 0
PrimariesAreActors = (noted : Noted) (v : ℕ) → IsLawfullyNoted noted → v < noted.nodes → primary_in noted v < ACTORS
