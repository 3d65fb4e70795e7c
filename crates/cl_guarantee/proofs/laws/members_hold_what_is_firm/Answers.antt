use Rattle.cl_guarantee.proofs.EveryRun.{each_has_members, members_hold, quiet_members_are_equal, standbys_follow}
use Rattle.cl_guarantee.proofs.laws.members_hold_what_is_firm.Goals as goal

pub returns-clause-each : goal.returns-clause-each
returns-clause-each c = each_has_members

pub returns-clause-hold : goal.returns-clause-hold
returns-clause-hold c = members_hold

pub returns-clause-equal : goal.returns-clause-equal
returns-clause-equal c = quiet_members_are_equal

pub returns-clause-follow : goal.returns-clause-follow
returns-clause-follow c = standbys_follow
