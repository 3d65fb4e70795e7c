-- What contracts see of a roster.
use Rattle.std.specs.Prelude.{ℕ, List}
use Rattle.cl_roster.specs.declared.entry.RosterEntry.{RosterEntry}

-- how many nodes and spares the cluster has, the entries in order, and for how many more there is room
pub record RosterView : Type 0 where
  pub nodes : ℕ
  pub spares : ℕ
  pub entries : List RosterEntry
  pub room : ℕ
