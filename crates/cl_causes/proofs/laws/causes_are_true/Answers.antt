use Rattle.cl_causes.proofs.Runs.{firm_runs_name_true_causes}
use Rattle.cl_causes.proofs.laws.causes_are_true.Goals as goal
use Rattle.cl_commit.proofs.Reordering.{reorder_keeps_whole}
use Rattle.cl_exchange.proofs.Reordering.{reorder_keeps_sound}
use Rattle.cl_ledger.proofs.Runs.{firm_runs_keep_one_order}
use Rattle.cl_served.proofs.EveryRun.{ledgers_are_shown}
use Rattle.cl_shown.proofs.Runs.{session_has_outstanding, firm_runs_are_well_shown}
use Rattle.cl_told.proofs.Runs.{firm_runs_are_told}

pub returns : goal.returns
returns c =
    firm_runs_name_true_causes firm_runs_are_told (firm_runs_keep_one_order reorder_keeps_sound reorder_keeps_whole) session_has_outstanding
    firm_runs_are_well_shown (ledgers_are_shown session_has_outstanding firm_runs_are_well_shown)
