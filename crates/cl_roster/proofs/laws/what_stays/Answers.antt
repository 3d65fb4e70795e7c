use Rattle.std.proofs.Common.{◌++◌}
use Rattle.std.proofs.lemmas.Bool.{not-true}
use Rattle.cl_roster.specs.Roles.{roles_after}
use Rattle.cl_roster.specs.Roster.{has_stopped}
use Rattle.cl_roster.proofs.Stays.{primary_stays, member_stays, stopped_never_returns, roles_after-take-append}
use Rattle.cl_roster.proofs.laws.what_stays.Goals as goal

pub returns : goal.returns
returns c = record {
  primary = λ nodes entries more v lives.
      primary_stays nodes entries more v (not-true (has_stopped (entries ++ more) (roles_after nodes entries v).primary) lives);
  member = λ nodes spares entries more v n lawful was lives.
      member_stays nodes spares entries more v n lawful was (not-true (has_stopped (entries ++ more) n) lives);
  stopped = stopped_never_returns;
  prefix = roles_after-take-append;
}
