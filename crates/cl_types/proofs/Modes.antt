-- Laws of modes.
use Rattle.std.proofs.Common.{◌≡◌, Option, Some, None, refl}
use Rattle.cl_types.specs.declared.operations.Mode.{Mode}
use Rattle.cl_types.specs.declared.operations.Mode.TheVariants.{Shared, Exclusive}
use Rattle.cl_types.specs.Modes.{stronger, is_conflict}

pub stronger-none : (mode : Option Mode) → stronger mode None ≡ mode
stronger-none None = refl
stronger-none (Some Shared) = refl
stronger-none (Some Exclusive) = refl

pub stronger-exclusive : (mode : Option Mode) → stronger mode (Some Exclusive) ≡ Some Exclusive
stronger-exclusive None = refl
stronger-exclusive (Some Shared) = refl
stronger-exclusive (Some Exclusive) = refl

pub is_conflict-symmetric : (a b : Option Mode) → is_conflict a b ≡ is_conflict b a
is_conflict-symmetric None None = refl
is_conflict-symmetric None (Some b) = refl
is_conflict-symmetric (Some a) None = refl
is_conflict-symmetric (Some Shared) (Some Shared) = refl
is_conflict-symmetric (Some Shared) (Some Exclusive) = refl
is_conflict-symmetric (Some Exclusive) (Some Shared) = refl
is_conflict-symmetric (Some Exclusive) (Some Exclusive) = refl
