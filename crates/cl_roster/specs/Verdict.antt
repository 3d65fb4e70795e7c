-- What a verdict on a stop means, and what the search for a spare finds.
use Rattle.std.specs.Prelude.{◌≡◌, ◌≢◌, ℕ, ◌+◌, ◌<◌, ◌≤◌, true, false, List, Option, Some, None, Result, Ok, Err}
use Rattle.cl_types.specs.declared.answers.StopFault.{StopFault}
use Rattle.cl_types.specs.declared.answers.StopFault.TheVariants.{Unknown, Down, Last}
use Rattle.cl_roster.specs.declared.entry.RosterEntry.{RosterEntry}
use Rattle.cl_roster.specs.Roles.{roles_after, is_only_member}
use Rattle.cl_roster.specs.Roster.{site, has_stopped, is_living}

-- node n is in the cluster, lives, and is not the only member of any virtual node
pub record IsAdmitted (nodes spares : ℕ) (entries : List RosterEntry) (n : ℕ) : Type 0 where
  pub known : n < nodes + spares
  pub living : is_living entries n ≡ true
  pub not_last : (v : ℕ) → v < nodes → is_only_member (roles_after nodes entries v) n ≡ false

-- node n is in the cluster, lives, and is the only member of virtual node v and of none below it
pub record IsLastOf (nodes spares : ℕ) (entries : List RosterEntry) (n v : ℕ) : Type 0 where
  pub known : n < nodes + spares
  pub living : is_living entries n ≡ true
  pub virtual_node : v < nodes
  pub only : is_only_member (roles_after nodes entries v) n ≡ true
  pub lowest : (u : ℕ) → u < v → is_only_member (roles_after nodes entries u) n ≡ false

-- what each verdict on the stop of node n means
abbrev pub VerdictMeans : ℕ → ℕ → List RosterEntry → ℕ → Result (Unit {0}) StopFault → Type 0
VerdictMeans nodes spares entries n (Ok done) = IsAdmitted nodes spares entries n
VerdictMeans nodes spares entries n (Err Unknown) = nodes + spares ≤ n
VerdictMeans nodes spares entries n (Err Down) = (n < nodes + spares) × (has_stopped entries n ≡ true)
VerdictMeans nodes spares entries n (Err (Last v)) = IsLastOf nodes spares entries n v

-- node n is a living spare on the site other than that of the primary of virtual node v
pub record IsSpareFor (nodes spares : ℕ) (entries : List RosterEntry) (v n : ℕ) : Type 0 where
  pub spare : nodes ≤ n
  pub known : n < nodes + spares
  pub living : is_living entries n ≡ true
  pub apart : site n ≢ site (roles_after nodes entries v).primary

-- what the search for a spare means: the lowest there is, or that there is none
abbrev pub SpareMeans : ℕ → ℕ → List RosterEntry → ℕ → Option ℕ → Type 0
SpareMeans nodes spares entries v None = (n : ℕ) → ¬ IsSpareFor nodes spares entries v n
SpareMeans nodes spares entries v (Some n) =
    IsSpareFor nodes spares entries v n × ((m : ℕ) → m < n → ¬ IsSpareFor nodes spares entries v m)
