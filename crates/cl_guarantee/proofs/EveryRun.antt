-- The laws, as the crates below prove what they stand on.
use Rattle.cl_causes.proofs.Runs.{firm_runs_name_true_causes}
use Rattle.cl_commit.proofs.Reordering.{reorder_keeps_whole}
use Rattle.cl_exchange.proofs.Reordering.{reorder_keeps_sound}
use Rattle.cl_guarantee.proofs.Runs as by
use Rattle.cl_guarantee.proofs.Members as members
use Rattle.cl_guarantee.specs.Laws.{RunsAreSerializable, EachHasMembers, ReplicasAgree, RunsNameTrueCauses, LinesAreFed, RestAnswersAll, HistoriesGoOn, LogsGoOn}
use Rattle.cl_guarantee.specs.Laws.{MembersHold, QuietMembersAreEqual, RunsKeepBrokenOut, RunsReplayUnbroken, StandbysFollow}
use Rattle.cl_held.proofs.EveryRun.{pairs_hold}
use Rattle.cl_ledger.proofs.Runs.{firm_runs_keep_one_order}
use Rattle.cl_members.proofs.Longer.{events_go_on}
use Rattle.cl_members.proofs.Marks.{marks_are_of_runs}
use Rattle.cl_members.proofs.Cores.{members_are_of_pairs}
use Rattle.cl_members.proofs.Quiet.{quiet_empties_mail, runs_are_quiet}
use Rattle.cl_members.proofs.Runs.{runs_are_firm_runs}
use Rattle.cl_pairs.proofs.Streams.{pairs_agree, pairs_are_one_log}
use Rattle.cl_served.proofs.EveryRun.{firm_runs_are_serializable, ledgers_are_shown}
use Rattle.cl_served.specs.Laws.{LedgersAreShown}
use Rattle.cl_settled.proofs.Agreeing as settled
use Rattle.cl_shown.proofs.Runs.{firm_lines_are_fed, firm_rest_answers_all, firm_runs_are_well_shown, session_has_outstanding}
use Rattle.cl_told.proofs.Runs.{firm_runs_are_told}

-- the transcript of every firm run shows what its ledger has done
shown : LedgersAreShown
shown = ledgers_are_shown session_has_outstanding firm_runs_are_well_shown

pub runs_are_serializable : RunsAreSerializable
runs_are_serializable = by.runs_are_serializable runs_are_firm_runs (firm_runs_are_serializable session_has_outstanding firm_runs_are_well_shown)

pub replicas_agree : ReplicasAgree
replicas_agree = by.replicas_agree runs_are_firm_runs (settled.replicas_agree shown)

pub runs_name_true_causes : RunsNameTrueCauses
runs_name_true_causes = by.runs_name_true_causes runs_are_firm_runs runs_are_quiet marks_are_of_runs
    (firm_runs_name_true_causes firm_runs_are_told (firm_runs_keep_one_order reorder_keeps_sound reorder_keeps_whole) session_has_outstanding firm_runs_are_well_shown shown)

pub lines_are_fed : LinesAreFed
lines_are_fed = by.lines_are_fed runs_are_firm_runs firm_lines_are_fed

pub rest_answers_all : RestAnswersAll
rest_answers_all = by.rest_answers_all runs_are_firm_runs firm_rest_answers_all

pub histories_go_on : HistoriesGoOn
histories_go_on = by.histories_go_on runs_are_firm_runs events_go_on settled.histories_go_on

pub logs_go_on : LogsGoOn
logs_go_on = by.logs_go_on runs_are_firm_runs events_go_on settled.logs_go_on

pub each_has_members : EachHasMembers
each_has_members = members.each_has_members members_are_of_pairs

pub members_hold : MembersHold
members_hold = members.members_hold members_are_of_pairs pairs_hold

pub quiet_members_are_equal : QuietMembersAreEqual
quiet_members_are_equal = members.quiet_members_are_equal members_are_of_pairs quiet_empties_mail pairs_are_one_log pairs_agree

pub runs_replay_unbroken : RunsReplayUnbroken
runs_replay_unbroken = by.runs_replay_unbroken runs_are_firm_runs (settled.unbroken_replay shown)

pub runs_keep_broken_out : RunsKeepBrokenOut
runs_keep_broken_out = by.runs_keep_broken_out runs_are_firm_runs events_go_on settled.broken_stay_out

pub standbys_follow : StandbysFollow
standbys_follow = members.standbys_follow members_are_of_pairs pairs_are_one_log
