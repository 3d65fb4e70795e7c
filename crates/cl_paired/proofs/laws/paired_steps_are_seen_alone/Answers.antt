use Rattle.cl_paired.proofs.laws.paired_steps_are_seen_alone.Goals as goal
use Rattle.cl_paired.proofs.Starting.{first_is_paired, fits_both}
use Rattle.cl_paired.proofs.Taking.{steps_are_seen_alone}

pub returns-clause-first : goal.returns-clause-first
returns-clause-first c = first_is_paired

pub returns-clause-fits : goal.returns-clause-fits
returns-clause-fits c = fits_both

pub returns-clause-steps : goal.returns-clause-steps
returns-clause-steps c = steps_are_seen_alone
