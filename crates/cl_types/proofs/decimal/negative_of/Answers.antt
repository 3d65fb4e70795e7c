use Rattle.std.proofs.Common.{sym, ap, ◌∙◌}
use Rattle.cl_types.specs.Decimal.{in_signed_64}
use Rattle.cl_types.proofs.Digits.{zero_minus, in_signed_64-checked, in_signed_64-large_negative, negative_64-positive, negative_64-other}
use Rattle.cl_types.proofs.decimal.negative_of.Goals as goal

pub returns-in_err-value_of : goal.returns-in_err-value_of
returns-in_err-value_of c =
    c.from_residual.ensures
    ∙ sym (in_signed_64-large_negative _ c.in_err-value_of.ensures)
    ∙ sym (negative_64-positive _ (sym c.if-is_positive.ensures))

pub returns-in_ok-value_of : goal.returns-in_ok-value_of
returns-in_ok-value_of c =
    in_signed_64-checked _ _ c.checked_sub_unsigned.ensures
    ∙ ap in_signed_64 (zero_minus _ _ c.in_ok-value_of.ensures.1)
    ∙ sym (negative_64-positive _ (sym c.if-is_positive.ensures))

pub returns-else-is_positive : goal.returns-else-is_positive
returns-else-is_positive c = sym (negative_64-other _ (sym c.if-is_positive.ensures))
