use Rattle.cl_wire.proofs.SpellingLengths.{length-spelling}
use Rattle.cl_wire.proofs.LongestSpelling.{as_long}
use Rattle.cl_wire.proofs.laws.no_spelling_is_longer.Goals as goal

pub returns-clause-most : goal.returns-clause-most
returns-clause-most c = length-spelling

pub returns-clause-reached : goal.returns-clause-reached
returns-clause-reached c = as_long
