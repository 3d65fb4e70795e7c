use Rattle.cl_lone.proofs.Lone.{first_is_calm, steps_stay_calm}
use Rattle.cl_system.proofs.Places.{in_place_at_first, events_keep_places}
use Rattle.cl_system.proofs.laws.all_is_in_place.Goals as goal

pub returns-clause-first : goal.returns-clause-first
returns-clause-first c = in_place_at_first first_is_calm

pub returns-clause-keeps : goal.returns-clause-keeps
returns-clause-keeps c = events_keep_places steps_stay_calm
