-- The laws of runs, as the crates below prove them.
use Rattle.cl_guarantee.proofs.EveryRun.{runs_are_serializable, replicas_agree, each_has_members, members_hold, quiet_members_are_equal, standbys_follow, runs_name_true_causes, lines_are_fed, rest_answers_all}
use Rattle.cl_guarantee.proofs.EveryRun.{histories_go_on, logs_go_on, runs_replay_unbroken, runs_keep_broken_out}
use Rattle.clustra.proofs.Guaranteed.{RunLaws}

pub run_laws : RunLaws
run_laws = record {
  serializable = runs_are_serializable;
  replicas = replicas_agree;
  members = each_has_members;
  follow = standbys_follow;
  held = members_hold;
  equal = quiet_members_are_equal;
  causes = runs_name_true_causes;
  fed = lines_are_fed;
  rest = rest_answers_all;
  histories = histories_go_on;
  logs = logs_go_on;
  unbroken = runs_replay_unbroken;
  broken = runs_keep_broken_out;
}
