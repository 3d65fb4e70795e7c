-- Modes of locks, where no lock is no mode.
use Rattle.std.specs.Prelude.{◌≡◌, ℕ, ◌≤◌, max, Bool, true, false, Option, Some, None}
use Rattle.cl_types.specs.declared.operations.Mode.{Mode}
use Rattle.cl_types.specs.declared.operations.Mode.TheVariants.{Shared, Exclusive}

-- the stronger of two modes, where none is the weakest
abbrev pub stronger : Option Mode → Option Mode → Option Mode
stronger None other = other
stronger (Some Exclusive) other = Some Exclusive
stronger (Some Shared) None = Some Shared
stronger (Some Shared) (Some other) = Some other

-- two locks of one place conflict where both are there and one at least is exclusive
abbrev pub is_conflict : Option Mode → Option Mode → Bool
is_conflict None other = false
is_conflict (Some mode) None = false
is_conflict (Some Shared) (Some Shared) = false
is_conflict (Some Shared) (Some Exclusive) = true
is_conflict (Some Exclusive) (Some other) = true

-- how strong a mode is, where none is the weakest
abbrev pub strength : Option Mode → ℕ
strength None = 0
strength (Some Shared) = 1
strength (Some Exclusive) = 2

-- the stronger of two modes is as strong as the strongest of them
abbrev pub StrongerIsStrongest : Type 0
StrongerIsStrongest = (a b : Option Mode) → strength (stronger a b) ≡ max (strength a) (strength b)

-- so it grows with each of them
abbrev pub StrongerIsMonotone : Type 0
StrongerIsMonotone = (a b c d : Option Mode) → strength a ≤ strength c → strength b ≤ strength d → strength (stronger a b) ≤ strength (stronger c d)

-- a mode conflicts with each that a weaker mode conflicts with
abbrev pub StrongerConflictsMore : Type 0
StrongerConflictsMore = (weak strong other : Option Mode) → strength weak ≤ strength strong → is_conflict weak other ≡ true → is_conflict strong other ≡ true

-- whichever of the two is asked about the other
abbrev pub ConflictIsSymmetric : Type 0
ConflictIsSymmetric = (a b : Option Mode) → is_conflict a b ≡ is_conflict b a
