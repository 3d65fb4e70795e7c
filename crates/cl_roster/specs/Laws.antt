-- The laws of a roster: what one entry more changes, and what is true along every lawful roster.
use Rattle.std.specs.Prelude.{◌≡◌, ◌≢◌, ℕ, ◌<◌, ◌≤◌, true, false, List, [], ◌∷◌, ◌++◌, length, take, Some, None, Ok}
use Rattle.cl_roster.specs.declared.entry.RosterEntry.{RosterEntry}
use Rattle.cl_roster.specs.declared.entry.RosterEntry.TheVariants.{Stopped, Repaired}
use Rattle.cl_roster.specs.declared.limits.TheConstants.{ENTRIES_MAX}
use Rattle.cl_roster.specs.declared.roles.Roles.{Roles}
use Rattle.cl_roster.specs.Roles.{roles_after, after_entry, is_member}
use Rattle.cl_roster.specs.Roster.{is_living, has_stopped, stop_verdict, spare_of, IsClusterSize, IsLawfulEntry, IsLawfulRoster}
use Rattle.cl_roster.specs.Verdict.{VerdictMeans, SpareMeans}
use Rattle.cl_roster.specs.Members.{AreSoundMembers, AreOnTwoSites, RepairsCrossSites}

-- the roles after one entry more are one step on
abbrev pub RolesGoOnByOneStep : Type 0
RolesGoOnByOneStep = (nodes : ℕ) (entries : List RosterEntry) (entry : RosterEntry) (v : ℕ) →
    roles_after nodes (entries ++ entry ∷ []) v ≡ after_entry v (roles_after nodes entries v) entry

-- what the stop of node n makes of the roles of a virtual node
pub record TakesOut (n : ℕ) (old new : Roles) : Type 0 where
  pub no_member : is_member old n ≡ false → new ≡ old
  pub primary : (m : ℕ) → old.primary ≡ n → old.standby ≡ Some m → new ≡ record { primary = m; standby = None }
  pub standby : old.primary ≢ n → old.standby ≡ Some n → new ≡ record { primary = old.primary; standby = None }

-- a stop takes the node out of each virtual node, and promotes the standby of a primary that stops
abbrev pub StopTakesOut : Type 0
StopTakesOut = (nodes : ℕ) (entries : List RosterEntry) (n v : ℕ) →
    TakesOut n (roles_after nodes entries v) (roles_after nodes (entries ++ Stopped n ∷ []) v)

-- what a repair of virtual node w by node n makes of the roles of virtual node v
pub record PutsIn (w n v : ℕ) (old new : Roles) : Type 0 where
  pub repaired : v ≡ w → new ≡ record { primary = old.primary; standby = Some n }
  pub others : v ≢ w → new ≡ old

-- a repair makes the node the standby of its virtual node, and changes no other
abbrev pub RepairPutsIn : Type 0
RepairPutsIn = (nodes : ℕ) (entries : List RosterEntry) (w n v : ℕ) →
    PutsIn w n v (roles_after nodes entries v) (roles_after nodes (entries ++ Repaired w n ∷ []) v)

-- the empty roster is lawful
abbrev pub EmptyIsLawful : Type 0
EmptyIsLawful = (nodes spares : ℕ) → IsLawfulRoster nodes spares []

-- a lawful roster stays lawful with a lawful entry more
abbrev pub LawfulEntryKeepsLawful : Type 0
LawfulEntryKeepsLawful = (nodes spares : ℕ) (entries : List RosterEntry) (entry : RosterEntry) →
    IsLawfulRoster nodes spares entries → IsLawfulEntry nodes spares entries entry →
    IsLawfulRoster nodes spares (entries ++ entry ∷ [])

-- what was noted of a lawful roster is lawful
abbrev pub PrefixIsLawful : Type 0
PrefixIsLawful = (nodes spares : ℕ) (noted rest : List RosterEntry) →
    IsLawfulRoster nodes spares (noted ++ rest) → IsLawfulRoster nodes spares noted

-- along a lawful roster each virtual node has one or two members, which are different nodes and live
abbrev pub MembersAreSound : Type 0
MembersAreSound = (nodes spares : ℕ) (entries : List RosterEntry) (v : ℕ) → IsClusterSize nodes spares → v < nodes →
    IsLawfulRoster nodes spares entries → AreSoundMembers nodes spares entries (roles_after nodes entries v)

-- they are on two sites as long as each repair names a node on the site other than that of the primary
abbrev pub MembersAreOnTwoSites : Type 0
MembersAreOnTwoSites = (nodes spares : ℕ) (entries : List RosterEntry) (v : ℕ) → IsClusterSize nodes spares → v < nodes →
    RepairsCrossSites nodes entries → AreOnTwoSites (roles_after nodes entries v)

-- after an admitted stop each virtual node has a living primary, which is not the node that stopped
abbrev pub AdmittedStopLeavesMember : Type 0
AdmittedStopLeavesMember = (nodes spares : ℕ) (entries : List RosterEntry) (n v : ℕ) → IsClusterSize nodes spares → v < nodes →
    IsLawfulRoster nodes spares entries → stop_verdict nodes spares entries n ≡ Ok tt →
    let after = entries ++ Stopped n ∷ [] in
    (is_living after (roles_after nodes after v).primary ≡ true) × ((roles_after nodes after v).primary ≢ n)

-- a primary stays primary until it stops
abbrev pub PrimaryStays : Type 0
PrimaryStays = (nodes : ℕ) (entries more : List RosterEntry) (v : ℕ) →
    is_living (entries ++ more) (roles_after nodes entries v).primary ≡ true →
    (roles_after nodes (entries ++ more) v).primary ≡ (roles_after nodes entries v).primary

-- a member stays a member until it stops
abbrev pub MemberStays : Type 0
MemberStays = (nodes spares : ℕ) (entries more : List RosterEntry) (v n : ℕ) → IsLawfulRoster nodes spares (entries ++ more) →
    is_member (roles_after nodes entries v) n ≡ true → is_living (entries ++ more) n ≡ true →
    is_member (roles_after nodes (entries ++ more) v) n ≡ true

-- a node that has stopped is no member of any virtual node, whatever follows
abbrev pub StoppedNeverReturns : Type 0
StoppedNeverReturns = (nodes spares : ℕ) (entries more : List RosterEntry) (n v : ℕ) → IsClusterSize nodes spares → v < nodes →
    IsLawfulRoster nodes spares (entries ++ more) → has_stopped entries n ≡ true →
    is_member (roles_after nodes (entries ++ more) v) n ≡ false

-- the roles after the first k entries depend on these alone: who has noted them knows these roles
abbrev pub PrefixDecidesRoles : Type 0
PrefixDecidesRoles = (nodes : ℕ) (noted rest : List RosterEntry) (k v : ℕ) → k ≤ length noted →
    roles_after nodes (take k (noted ++ rest)) v ≡ roles_after nodes (take k noted) v

-- each verdict on a stop means what it says
abbrev pub VerdictsMean : Type 0
VerdictsMean = (nodes spares : ℕ) (entries : List RosterEntry) (n : ℕ) →
    VerdictMeans nodes spares entries n (stop_verdict nodes spares entries n)

-- the search for a spare finds the lowest living one on the other site, or there is none
abbrev pub SparesMean : Type 0
SparesMean = (nodes spares : ℕ) (entries : List RosterEntry) (v : ℕ) →
    SpareMeans nodes spares entries v (spare_of nodes spares entries v)

-- the spare that is picked for a lone virtual node may become its standby
abbrev pub PickedSpareIsLawful : Type 0
PickedSpareIsLawful = (nodes spares : ℕ) (entries : List RosterEntry) (v n : ℕ) → v < nodes →
    (roles_after nodes entries v).standby ≡ None → spare_of nodes spares entries v ≡ Some n →
    IsLawfulEntry nodes spares entries (Repaired v n)

-- a lawful roster is short
abbrev pub LawfulRostersAreShort : Type 0
LawfulRostersAreShort = (nodes spares : ℕ) (entries : List RosterEntry) → IsClusterSize nodes spares →
    IsLawfulRoster nodes spares entries → length entries ≤ ENTRIES_MAX
