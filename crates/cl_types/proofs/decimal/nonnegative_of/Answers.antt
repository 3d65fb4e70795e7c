use Rattle.std.proofs.Common.{sym, ap, ◌∙◌}
use Rattle.cl_types.specs.Decimal.{in_signed_64}
use Rattle.cl_types.proofs.Digits.{zero_plus, in_signed_64-checked, in_signed_64-large, nonnegative_64-canonical, nonnegative_64-other}
use Rattle.cl_types.proofs.decimal.nonnegative_of.Goals as goal

pub returns-in_err-value_of : goal.returns-in_err-value_of
returns-in_err-value_of c =
    c.from_residual.ensures
    ∙ sym (in_signed_64-large _ c.in_err-value_of.ensures)
    ∙ sym (nonnegative_64-canonical _ (sym c.if-is_canonical.ensures))

pub returns-in_ok-value_of : goal.returns-in_ok-value_of
returns-in_ok-value_of c =
    in_signed_64-checked _ _ c.checked_add_unsigned.ensures
    ∙ ap in_signed_64 (zero_plus _ _ c.in_ok-value_of.ensures.1)
    ∙ sym (nonnegative_64-canonical _ (sym c.if-is_canonical.ensures))

pub returns-else-is_canonical : goal.returns-else-is_canonical
returns-else-is_canonical c = sym (nonnegative_64-other _ (sym c.if-is_canonical.ensures))
