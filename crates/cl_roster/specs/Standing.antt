-- What is kept beside the entries of a roster. No public clause cites this module.
use Rattle.std.specs.Prelude.{◌≡◌, ℕ, ◌<◌, Bool, List}
use Rattle.std.specs.List.{slice_index_or}
use Rattle.cl_roster.specs.declared.entry.RosterEntry.{RosterEntry}
use Rattle.cl_roster.specs.declared.limits.TheConstants.{NODES_MAX, VIRTUAL_NODES_MAX}
use Rattle.cl_roster.specs.declared.roles.Roles.{Roles}
use Rattle.cl_roster.specs.declared.standing.Standing.{Standing}
use Rattle.cl_roster.specs.Roles.{roles_after}
use Rattle.cl_roster.specs.Roster.{has_stopped}

-- the kept roles and flags are those after the entries
pub record Stands (nodes : ℕ) (entries : List RosterEntry) (standing : Standing) : Type 0 where
  pub roles : (v : ℕ) (d : Roles) → v < VIRTUAL_NODES_MAX → slice_index_or standing.roles v d ≡ roles_after nodes entries v
  pub stopped : (n : ℕ) (d : Bool) → n < NODES_MAX → slice_index_or standing.stopped n d ≡ has_stopped entries n
