use Rattle.std.proofs.Common.{◌≡◌, ◌^◌, ◌<◌, take}
use Rattle.cl_types.specs.Decimal.{value_of_digits}
use Rattle.cl_types.proofs.decimal.value_of.Given as goal

abbrev pub invariant-loop-digit : goal.invariant-loop-digit
invariant-loop-digit l = (l.number ≡ value_of_digits (take l.digit-index l.digits)) × (l.number < 2 ^ 64)
