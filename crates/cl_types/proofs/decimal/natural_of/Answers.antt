use Rattle.std.proofs.Common.{sym, ◌∙◌}
use Rattle.cl_types.proofs.Digits.{in_unsigned_64-checked, natural_64-canonical, natural_64-other}
use Rattle.cl_types.proofs.decimal.natural_of.Goals as goal

pub returns-then-is_canonical : goal.returns-then-is_canonical
returns-then-is_canonical c = in_unsigned_64-checked _ _ c.value_of.ensures ∙ sym (natural_64-canonical _ (sym c.if-is_canonical.ensures))

pub returns-else-is_canonical : goal.returns-else-is_canonical
returns-else-is_canonical c = sym (natural_64-other _ (sym c.if-is_canonical.ensures))
