-- Who is primary and who is standby of a virtual node, entry by entry.
use Rattle.std.specs.Prelude.{ℕ, ◌+◌, ◌%◌, ◌==◌, Bool, false, ◌&&◌, ◌||◌, if◌then◌else◌, List, fold, Option, Some, None, is_none}
use Rattle.cl_roster.specs.declared.entry.RosterEntry.{RosterEntry}
use Rattle.cl_roster.specs.declared.entry.RosterEntry.TheVariants.{Stopped, Repaired}
use Rattle.cl_roster.specs.declared.roles.Roles.{Roles}

-- the roles of virtual node v at the start: node v is primary, and the next node is standby
abbrev pub first_roles : ℕ → ℕ → Roles
first_roles nodes v = record { primary = v; standby = Some ((v + 1) % nodes) }

-- whether there is a standby, and it is node n
abbrev pub is_standby : Option ℕ → ℕ → Bool
is_standby None n = false
is_standby (Some m) n = m == n

-- the members are the primary and, where there is one, the standby
abbrev pub is_member : Roles → ℕ → Bool
is_member roles n = (roles.primary == n) || is_standby roles.standby n

-- whether node n is the only member
abbrev pub is_only_member : Roles → ℕ → Bool
is_only_member roles n = (roles.primary == n) && is_none roles.standby

-- the roles without the primary: the standby becomes primary, where there is one
abbrev pub promoted : ℕ → Option ℕ → Roles
promoted primary None = record { primary = primary; standby = None }
promoted primary (Some m) = record { primary = m; standby = None }

-- the roles after the stop of node n
abbrev pub after_stop : ℕ → Roles → Roles
after_stop n roles =
    if roles.primary == n then promoted roles.primary roles.standby
    else (if is_standby roles.standby n then record { primary = roles.primary; standby = None } else roles)

-- the roles of virtual node v after one entry more
abbrev pub after_entry : ℕ → Roles → RosterEntry → Roles
after_entry v roles (Stopped n) = after_stop n roles
after_entry v roles (Repaired w n) = if w == v then record { primary = roles.primary; standby = Some n } else roles

-- the roles of virtual node v after the entries, in order
abbrev pub roles_after : ℕ → List RosterEntry → ℕ → Roles
roles_after nodes entries v = fold (after_entry v) (first_roles nodes v) entries
