-- Locks that are held.
use Rattle.std.proofs.Common.{◌≡◌, true, Option, Some, None, refl}
use Rattle.std.proofs.lemmas.Bool.{false≢true}
use Rattle.cl_types.specs.declared.operations.Mode.{Mode}
use Rattle.cl_types.specs.declared.operations.Mode.TheVariants.{Shared, Exclusive}
use Rattle.cl_types.specs.declared.operations.Op.{Op}
use Rattle.cl_types.specs.declared.operations.Op.TheVariants.{Get, Put, Del, Add}
use Rattle.cl_types.specs.Modes.{stronger, is_conflict}
use Rattle.cl_order.specs.Operations.{mode_of, is_held}

-- a stronger lock holds what the weaker one held
pub is_held-stronger : (held more : Option Mode) (mode : Mode) → is_held held mode ≡ true → is_held (stronger held more) mode ≡ true
is_held-stronger None more mode h = absurd (false≢true h)
is_held-stronger (Some Exclusive) more mode h = refl
is_held-stronger (Some Shared) None mode h = h
is_held-stronger (Some Shared) (Some Exclusive) mode h = refl
is_held-stronger (Some Shared) (Some Shared) mode h = h

-- and what was asked
pub is_held-asked : (held : Option Mode) (mode : Mode) → is_held (stronger held (Some mode)) mode ≡ true
is_held-asked None Shared = refl
is_held-asked None Exclusive = refl
is_held-asked (Some Exclusive) mode = refl
is_held-asked (Some Shared) Shared = refl
is_held-asked (Some Shared) Exclusive = refl

pub is_held-itself : (mode : Mode) → is_held (Some mode) mode ≡ true
is_held-itself Shared = refl
is_held-itself Exclusive = refl

pub held_none : (mode : Mode) → is_held None mode ≡ true → ⊥
held_none mode h = false≢true h

pub is_held-exclusive : (held : Option Mode) → is_held held Exclusive ≡ true → held ≡ Some Exclusive
is_held-exclusive None h = absurd (false≢true h)
is_held-exclusive (Some Exclusive) h = refl
is_held-exclusive (Some Shared) h = absurd (false≢true h)

-- what conflicts with a mode conflicts with a lock that holds it
pub conflict_with_held : (held other : Option Mode) (mode : Mode) → is_held held mode ≡ true → is_conflict (Some mode) other ≡ true → is_conflict held other ≡ true
conflict_with_held None other mode h c = absurd (false≢true h)
conflict_with_held (Some Exclusive) None Shared h c = c
conflict_with_held (Some Exclusive) None Exclusive h c = c
conflict_with_held (Some Exclusive) (Some other) mode h c = refl
conflict_with_held (Some Shared) other Shared h c = c
conflict_with_held (Some Shared) other Exclusive h c = absurd (false≢true h)

-- an exclusive lock conflicts with each other lock
pub conflict_with_exclusive : (other : Option Mode) (mode : Mode) → is_held other mode ≡ true → is_conflict other (Some Exclusive) ≡ true
conflict_with_exclusive None mode h = absurd (false≢true h)
conflict_with_exclusive (Some Shared) mode h = refl
conflict_with_exclusive (Some Exclusive) mode h = refl

-- what a lock that is not exclusive holds is a read
pub read_under : (held : Option Mode) (op : Op) → (held ≡ Some Exclusive → ⊥) → is_held held (mode_of op) ≡ true → op ≡ Get
read_under held Get weak h = refl
read_under held (Put y) weak h = absurd (weak (is_held-exclusive held h))
read_under held Del weak h = absurd (weak (is_held-exclusive held h))
read_under held (Add amount) weak h = absurd (weak (is_held-exclusive held h))
