-- What is true of the members of each virtual node along a roster.
use Rattle.std.specs.Prelude.{◌≡◌, ◌≢◌, ℕ, ◌+◌, ◌<◌, true, false, List, Some}
use Rattle.cl_roster.specs.declared.entry.RosterEntry.{RosterEntry}
use Rattle.cl_roster.specs.declared.entry.RosterEntry.TheVariants.{Stopped, Repaired}
use Rattle.cl_roster.specs.declared.roles.Roles.{Roles}
use Rattle.cl_roster.specs.Roles.{roles_after, is_member, is_standby}
use Rattle.cl_roster.specs.Roster.{site, is_living, EachFits}

-- the members are nodes of the cluster, they live, and they differ
pub record AreSoundMembers (nodes spares : ℕ) (entries : List RosterEntry) (roles : Roles) : Type 0 where
  pub known : (n : ℕ) → is_member roles n ≡ true → n < nodes + spares
  pub living : (n : ℕ) → is_member roles n ≡ true → is_living entries n ≡ true
  pub different : is_standby roles.standby roles.primary ≡ false

-- a standby is on the site other than that of the primary
pub record AreOnTwoSites (roles : Roles) : Type 0 where
  pub apart : (n : ℕ) → roles.standby ≡ Some n → site n ≢ site roles.primary

-- a repair names a node on the site other than that of the primary
abbrev pub Crosses : ℕ → List RosterEntry → RosterEntry → Type 0
Crosses nodes entries (Stopped n) = Unit {0}
Crosses nodes entries (Repaired v n) = site n ≢ site (roles_after nodes entries v).primary

-- each repair of the list does
abbrev pub RepairsCrossSites : ℕ → List RosterEntry → Type 0
RepairsCrossSites nodes entries = EachFits (Crosses nodes) entries
