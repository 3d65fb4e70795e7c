-- What a roster's fields keep.
use Rattle.cl_types.specs.AppendOnlyList.{entries, room}
use Rattle.cl_roster.specs.declared.roster.Roster.TheInside.{Inside}
use Rattle.cl_roster.specs.Roster.{IsClusterSize, IsLawfulRoster}
use Rattle.cl_roster.specs.Standing.{Stands}
use Rattle.cl_roster.specs.View.{RosterView}

-- what contracts see of a roster's fields
abbrev pub view_of : Inside → RosterView
view_of roster = record { nodes = roster.nodes; spares = roster.spares; entries = entries roster.entries; room = room roster.entries }

-- the entries are lawful, and what stands beside them is what they make
pub record IsKept (roster : Inside) : Type 0 where
  pub size : IsClusterSize roster.nodes roster.spares
  pub lawful : IsLawfulRoster roster.nodes roster.spares (entries roster.entries)
  pub stands : Stands roster.nodes (entries roster.entries) roster.standing
