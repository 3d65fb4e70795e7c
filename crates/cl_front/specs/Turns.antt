-- Whose turn it is next.
use Rattle.std.specs.Prelude.{◌≡◌, false, true, ◌⊎◌, [], ◌∷◌, Option, Some, None}
use Rattle.cl_types.specs.declared.operations.Command.{Command}
use Rattle.cl_front.specs.Session.{SessionState, is_outstanding}

-- the first command that waits has its turn, and waits no longer; there is none where one is outstanding, or none waits
abbrev pub IsNextTurn : SessionState → SessionState → Option Command → Type 0
IsNextTurn old new None = (new ≡ old) × ((is_outstanding old ≡ true) ⊎ (old.waiting ≡ []))
IsNextTurn old new (Some command) = (is_outstanding old ≡ false) × (old ≡ record new { waiting = command ∷ new.waiting })
