use Rattle.cl_roster.proofs.Effects.{TakesOut-roles_after, PutsIn-roles_after}
use Rattle.cl_roster.proofs.Steps.{roles_after-push}
use Rattle.cl_roster.proofs.laws.one_entry_more.Goals as goal

pub returns : goal.returns
returns c = record { step = roles_after-push; stop = TakesOut-roles_after; repair = PutsIn-roles_after }
