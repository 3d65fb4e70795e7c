use Rattle.cl_roster.proofs.Bound.{length-lawful}
use Rattle.cl_roster.proofs.Lawful.{IsLawfulRoster-none, IsLawfulRoster-push, IsLawfulRoster-prefix}
use Rattle.cl_roster.proofs.laws.lawful_rosters.Goals as goal

pub returns : goal.returns
returns c = record {
  empty = IsLawfulRoster-none;
  push = IsLawfulRoster-push;
  prefix = IsLawfulRoster-prefix;
  short = length-lawful;
}
