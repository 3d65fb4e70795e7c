-- Stronger modes, and what conflicts with them.
use Rattle.std.proofs.Common.{◌≡◌, ◌≤◌, max, true, Option, Some, None, refl, arith}
use Rattle.std.proofs.lemmas.Bool.{false≢true}
use Rattle.cl_types.specs.declared.operations.Mode.{Mode}
use Rattle.cl_types.specs.declared.operations.Mode.TheVariants.{Shared, Exclusive}
use Rattle.cl_types.specs.Modes.{stronger, is_conflict, strength}

pub strength-stronger : (a b : Option Mode) → strength (stronger a b) ≡ max (strength a) (strength b)
strength-stronger None None = refl
strength-stronger None (Some Shared) = refl
strength-stronger None (Some Exclusive) = refl
strength-stronger (Some Shared) None = refl
strength-stronger (Some Shared) (Some Shared) = refl
strength-stronger (Some Shared) (Some Exclusive) = refl
strength-stronger (Some Exclusive) None = refl
strength-stronger (Some Exclusive) (Some Shared) = refl
strength-stronger (Some Exclusive) (Some Exclusive) = refl

pub stronger-monotone : (a b c d : Option Mode) → strength a ≤ strength c → strength b ≤ strength d → strength (stronger a b) ≤ strength (stronger c d)
stronger-monotone a b c d first second = rw (strength-stronger a b) (rw (strength-stronger c d) (omega (arith, first, second)))

-- a mode conflicts with each that a weaker mode conflicts with
pub is_conflict-monotone : (weak strong other : Option Mode) → strength weak ≤ strength strong → is_conflict weak other ≡ true → is_conflict strong other ≡ true
is_conflict-monotone None strong other most h = absurd (false≢true h)
is_conflict-monotone (Some weak) strong None most h = absurd (false≢true h)
is_conflict-monotone (Some Shared) None (Some other) most h = absurd (omega (arith, most))
is_conflict-monotone (Some Shared) (Some Shared) (Some other) most h = h
is_conflict-monotone (Some Shared) (Some Exclusive) (Some other) most h = refl
is_conflict-monotone (Some Exclusive) None (Some other) most h = absurd (omega (arith, most))
is_conflict-monotone (Some Exclusive) (Some Shared) (Some other) most h = absurd (omega (arith, most))
is_conflict-monotone (Some Exclusive) (Some Exclusive) (Some other) most h = refl
