use Rattle.cl_types.proofs.Modes.{is_conflict-symmetric}
use Rattle.cl_types.proofs.Strength.{strength-stronger, stronger-monotone, is_conflict-monotone}
use Rattle.cl_types.proofs.operations.modes_law.Goals as goal

pub returns : goal.returns
returns c = record { stronger = strength-stronger; monotone = stronger-monotone; conflicts = is_conflict-monotone; symmetric = is_conflict-symmetric }
