-- How a primary makes its log safe.
use Rattle.std.specs.Prelude.{ℕ, nat_eq, nat_le, Bool, true, if◌then◌else◌, max, Option, Some, None}
use Rattle.cl_roster.specs.declared.entry.RosterEntry.{RosterEntry}
use Rattle.cl_roster.specs.declared.entry.RosterEntry.TheVariants.{Stopped}
use Rattle.cl_repair.specs.declared.mode.Mode.{Mode}
use Rattle.cl_repair.specs.declared.mode.Mode.TheVariants.{Lone, Pair}

-- the mode of a replica of a virtual node, and up to which number its peer has acknowledged the log
pub record ModesState : Type 0 where
  pub v : ℕ
  pub mode : Mode
  pub acked : ℕ

-- a standby makes a pair
abbrev pub mode_with : Option ℕ → Mode
mode_with None = Lone
mode_with (Some standby) = Pair standby

-- at the start nothing is acknowledged
abbrev pub new_modes : ℕ → Option ℕ → ModesState
new_modes v standby = record { v = v; mode = mode_with standby; acked = 0 }

-- the greatest number that was acknowledged counts, where there is a standby
abbrev pub acked_in : Mode → ℕ → ℕ → ℕ
acked_in Lone acked number = acked
acked_in (Pair standby) acked number = max acked number

-- the standby has acknowledged the log up to this number
abbrev pub after_acked : ModesState → ℕ → ModesState
after_acked modes number = record modes { acked = acked_in modes.mode modes.acked number }

-- the stop of its standby leaves a primary alone; nothing else changes the mode yet
abbrev pub mode_noted : Mode → RosterEntry → Mode
mode_noted (Pair standby) (Stopped node) = if nat_eq standby node then Lone else Pair standby
mode_noted mode entry = mode

-- an entry of the roster is noted
abbrev pub after_noted : ModesState → RosterEntry → ModesState
after_noted modes entry = record modes { mode = mode_noted modes.mode entry }

-- the replica makes its log safe by itself from now on
abbrev pub after_alone : ModesState → ModesState
after_alone modes = record modes { mode = Lone }

-- up to which number a log is safe that ends with the last one: without a standby all of it is, and with one as far as it was acknowledged
abbrev pub safe_in : Mode → ℕ → ℕ → ℕ
safe_in Lone acked last = last
safe_in (Pair standby) acked last = acked

-- a record is safe for the primary: at once without a standby, and with one once it is acknowledged
abbrev pub is_safe_in : Mode → ℕ → ℕ → Bool
is_safe_in Lone acked number = true
is_safe_in (Pair standby) acked number = nat_le number acked

-- the record of this number is safe
abbrev pub is_safe : ModesState → ℕ → Bool
is_safe modes number = is_safe_in modes.mode modes.acked number
