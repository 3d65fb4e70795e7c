-- A write by guard, in its two steps. No public clause cites this module.
use Rattle.std.specs.Prelude.{ℕ, ◌<◌, ◌≤◌, ◌==◌, if◌then◌else◌}
use Rattle.cl_types.specs.Places.{Stored}
use Rattle.cl_log.specs.declared.records.LogRec.{LogRec}
use Rattle.cl_log.specs.Store.{value_after}
use Rattle.cl_redo.specs.declared.redone.Redone.{Redone}
use Rattle.cl_redo.specs.declared.redone.Redone.TheVariants.{Applied, Skipped}
use Rattle.cl_redo.specs.declared.write.Guarded.{Guarded}
use Rattle.cl_redo.specs.declared.write.Guarded.TheVariants.{Write, Skip}

-- the write of a record, where the stored number is the one before
abbrev pub guarded : LogRec → ℕ → Stored → Guarded
guarded content before stored = if stored.0 == before then Write (value_after content stored.1) else Skip

-- what taking the record answers, by what is done with its write
abbrev pub redone_of : Guarded → Redone
redone_of (Write value) = Applied
redone_of Skip = Skipped

-- what stands at the place after the write under a number
abbrev pub after_write : ℕ → Guarded → Stored → Stored
after_write number (Write value) stored = (number, value)
after_write number Skip stored = stored

-- a write has room
abbrev pub CanWrite : Guarded → ℕ → Type 0
CanWrite (Write value) room = 1 ≤ room
CanWrite Skip room = Unit {0}

-- a write is under a number above the one that stands there
abbrev pub IsAbove : Guarded → ℕ → Stored → Type 0
IsAbove (Write value) number stored = stored.0 < number
IsAbove Skip number stored = Unit {0}
