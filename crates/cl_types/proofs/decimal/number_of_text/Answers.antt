use Rattle.std.proofs.Common.{sym, ◌∙◌}
use Rattle.cl_types.proofs.Digits.{number-none, number-negative, number-nonnegative}
use Rattle.cl_types.proofs.decimal.number_of_text.Goals as goal

pub returns-in_err-first : goal.returns-in_err-first
returns-in_err-first c = c.from_residual.ensures ∙ sym (number-none _ c.in_err-first.ensures.cases)

pub returns-then-first-eq45 : goal.returns-then-first-eq45
returns-then-first-eq45 c = c.negative_of.ensures ∙ sym (number-negative _ _ _ c.in_ok-first.ensures.cases.0 c.if-first-eq45.true)

pub returns-else-first-eq45 : goal.returns-else-first-eq45
returns-else-first-eq45 c = c.nonnegative_of.ensures ∙ sym (number-nonnegative _ _ _ c.in_ok-first.ensures.cases.0 c.if-first-eq45.false)
