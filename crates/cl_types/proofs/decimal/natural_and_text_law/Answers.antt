use Rattle.cl_types.proofs.DecimalLaws.{natural_64-decimal, natural_64-text}
use Rattle.cl_types.proofs.decimal.natural_and_text_law.Goals as goal

pub returns-clause-printed : goal.returns-clause-printed
returns-clause-printed c = natural_64-decimal

pub returns-clause-read : goal.returns-clause-read
returns-clause-read c = natural_64-text
