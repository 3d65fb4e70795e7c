use Rattle.cl_lone.proofs.Lone.{first_is_calm, calm_steps_are_lone, steps_stay_calm}
use Rattle.cl_lone.proofs.laws.calm_steps_are_lone.Goals as goal

pub returns-clause-first : goal.returns-clause-first
returns-clause-first c = first_is_calm

pub returns-clause-steps : goal.returns-clause-steps
returns-clause-steps c = calm_steps_are_lone

pub returns-clause-stays : goal.returns-clause-stays
returns-clause-stays c = steps_stay_calm
