use Rattle.cl_types.proofs.DecimalLaws.{number-signed_decimal, number-text, is_value-signed_decimal}
use Rattle.cl_types.proofs.decimal.number_and_text_law.Goals as goal

pub returns-clause-printed : goal.returns-clause-printed
returns-clause-printed c = number-signed_decimal

pub returns-clause-read : goal.returns-clause-read
returns-clause-read c = number-text

pub returns-clause-value : goal.returns-clause-value
returns-clause-value c = is_value-signed_decimal
