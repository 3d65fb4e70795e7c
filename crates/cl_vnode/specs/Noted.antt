-- A roster with the entry that is about to follow it. No public clause cites this module.
use Rattle.std.specs.Prelude.{[], ◌∷◌, ◌++◌, Option, Some, None}
use Rattle.cl_roster.specs.declared.entry.RosterEntry.{RosterEntry}
use Rattle.cl_roster.specs.View.{RosterView}
use Rattle.cl_vnode.specs.declared.noted.Noted.TheInside.{Inside}

-- the roster with one entry more, where there is one
abbrev pub with_more : RosterView → Option RosterEntry → RosterView
with_more roster None = roster
with_more roster (Some entry) = record roster { entries = roster.entries ++ entry ∷ [] }

-- what contracts see
abbrev pub view_of : Inside → RosterView
view_of noted = with_more noted.roster.now noted.more
