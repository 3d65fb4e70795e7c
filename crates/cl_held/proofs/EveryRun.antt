-- The law of runs, as the crates below prove what it stands on.
use Rattle.cl_commit.proofs.Events.{aborted_stay_out}
use Rattle.cl_commit.proofs.Reordering.{reorder_keeps_whole}
use Rattle.cl_exchange.proofs.Reordering.{reorder_keeps_sound}
use Rattle.cl_held.proofs.Held as by
use Rattle.cl_held.specs.Laws.{PairsHold}
use Rattle.cl_ledger.proofs.Runs.{firm_runs_keep_one_order}
use Rattle.cl_seen.proofs.EveryRun.{pair_runs_are_seen}

-- what is firm is held by every member
pub pairs_hold : PairsHold
pairs_hold = by.pairs_hold (firm_runs_keep_one_order reorder_keeps_sound reorder_keeps_whole) aborted_stay_out pair_runs_are_seen
