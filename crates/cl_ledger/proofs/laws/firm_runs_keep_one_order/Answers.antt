use Rattle.cl_commit.proofs.Reordering.{reorder_keeps_whole}
use Rattle.cl_exchange.proofs.Reordering.{reorder_keeps_sound}
use Rattle.cl_ledger.proofs.Runs.{firm_runs_keep_one_order}
use Rattle.cl_ledger.proofs.laws.firm_runs_keep_one_order.Goals as goal

pub returns : goal.returns
returns c = firm_runs_keep_one_order reorder_keeps_sound reorder_keeps_whole
