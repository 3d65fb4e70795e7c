-- Where one more digit is too many, no further digit makes the number smaller.
use Rattle.std.proofs.Common.{arith}
use Rattle.cl_types.proofs.Digits.{too_large}
use Rattle.cl_types.proofs.decimal.value_of.Goals as goal

pub returns-in_err-number : goal.returns-in_err-number
returns-in_err-number c = rw c.from_residual.ensures (too_large _ c.loop-digit.digit-index c.loop-digit-test.true (λ small. c.in_err-number.ensures (omega arith)))
