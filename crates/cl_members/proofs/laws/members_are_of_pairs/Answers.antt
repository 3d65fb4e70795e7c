use Rattle.cl_members.proofs.Cores.{members_are_of_pairs}
use Rattle.cl_members.proofs.Quiet.{quiet_empties_mail}
use Rattle.cl_members.proofs.laws.members_are_of_pairs.Goals as goal

pub returns-clause-members : goal.returns-clause-members
returns-clause-members c = members_are_of_pairs

pub returns-clause-quiet : goal.returns-clause-quiet
returns-clause-quiet c = quiet_empties_mail
