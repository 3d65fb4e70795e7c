-- What a roster says: who has stopped, which entry may come next, which stop is admitted, and which spare repairs.
use Rattle.std.specs.Prelude.{◌≡◌, ℕ, zero, suc, ◌+◌, ◌%◌, ◌<◌, ◌≤◌, ◌==◌, nat_le, Bool, true, false, ◌&&◌, not, if◌then◌else◌, List, ◌∷◌, ◌++◌, Option, Some, None, Result, Ok, Err, slice_get}
use Rattle.std.specs.List.{list_any, find, range_with_len}
use Rattle.cl_types.specs.declared.answers.StopFault.{StopFault}
use Rattle.cl_types.specs.declared.answers.StopFault.TheVariants.{Unknown, Down, Last}
use Rattle.cl_types.specs.Placement.{IsNodeCount}
use Rattle.cl_roster.specs.declared.limits.TheConstants.{SPARES_MAX}
use Rattle.cl_roster.specs.declared.entry.RosterEntry.{RosterEntry}
use Rattle.cl_roster.specs.declared.entry.RosterEntry.TheVariants.{Stopped, Repaired}
use Rattle.cl_roster.specs.Roles.{roles_after, is_member, is_only_member}

-- 2, 4, 6 or 8 nodes, and not too many spares
pub record IsClusterSize (nodes spares : ℕ) : Type 0 where
  pub counted : IsNodeCount nodes
  pub few_spares : spares ≤ SPARES_MAX

-- the site of a node
abbrev pub site : ℕ → ℕ
site n = n % 2

-- whether the entry is the stop of node n
abbrev pub is_stop_of : ℕ → RosterEntry → Bool
is_stop_of n (Stopped m) = m == n
is_stop_of n (Repaired v m) = false

-- whether node n has stopped: its stop is among the entries
abbrev pub has_stopped : List RosterEntry → ℕ → Bool
has_stopped entries n = list_any (is_stop_of n) entries

-- a node lives as long as it has not stopped
abbrev pub is_living : List RosterEntry → ℕ → Bool
is_living entries n = not (has_stopped entries n)

-- the lowest virtual node of which node n is the only member
abbrev pub lowest_alone : ℕ → List RosterEntry → ℕ → Option ℕ
lowest_alone nodes entries n = find (λ v. is_only_member (roles_after nodes entries v) n) (range_with_len 0 nodes)

-- refused where there is such a virtual node, admitted where there is none
abbrev pub refused_as_last : Option ℕ → Result (Unit {0}) StopFault
refused_as_last None = Ok tt
refused_as_last (Some v) = Err (Last v)

-- whether the stop of node n is admitted, and otherwise why it is refused
abbrev pub stop_verdict : ℕ → ℕ → List RosterEntry → ℕ → Result (Unit {0}) StopFault
stop_verdict nodes spares entries n =
    if nat_le (nodes + spares) n then Err Unknown
    else (if has_stopped entries n then Err Down else refused_as_last (lowest_alone nodes entries n))

-- node n may become the standby of virtual node v
pub record IsLawfulRepair (nodes spares : ℕ) (entries : List RosterEntry) (v n : ℕ) : Type 0 where
  pub virtual_node : v < nodes
  pub lone : (roles_after nodes entries v).standby ≡ None
  pub node : n < nodes + spares
  pub living : is_living entries n ≡ true
  pub no_member : is_member (roles_after nodes entries v) n ≡ false

-- the entry may come after these entries
abbrev pub IsLawfulEntry : ℕ → ℕ → List RosterEntry → RosterEntry → Type 0
IsLawfulEntry nodes spares entries (Stopped n) = stop_verdict nodes spares entries n ≡ Ok tt
IsLawfulEntry nodes spares entries (Repaired v n) = IsLawfulRepair nodes spares entries v n

-- each entry of the list fits those before it
pub record EachFits (Fits : List RosterEntry → RosterEntry → Type 0) (entries : List RosterEntry) : Type 0 where
  pub each : (before : List RosterEntry) (entry : RosterEntry) (after : List RosterEntry) →
      entries ≡ before ++ entry ∷ after → Fits before entry

-- each entry is lawful after those before it
abbrev pub IsLawfulRoster : ℕ → ℕ → List RosterEntry → Type 0
IsLawfulRoster nodes spares entries = EachFits (IsLawfulEntry nodes spares) entries

-- the k-th entry, counted from 1
abbrev pub entry_at : List RosterEntry → ℕ → Option RosterEntry
entry_at entries zero = None
entry_at entries (suc k) = slice_get entries k

-- the lowest living spare on the site other than that of the primary of virtual node v
abbrev pub spare_of : ℕ → ℕ → List RosterEntry → ℕ → Option ℕ
spare_of nodes spares entries v =
    find (λ n. is_living entries n && not (site n == site (roles_after nodes entries v).primary)) (range_with_len nodes spares)
