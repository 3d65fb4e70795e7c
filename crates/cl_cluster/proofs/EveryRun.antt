-- The laws of runs, as the crates below prove what they stand on.
use Rattle.cl_seen.proofs.EveryRun.{pair_inputs_fit, pair_messages_are_addressed}
use Rattle.cl_cluster.proofs.Runs as by
use Rattle.cl_cluster.specs.Laws.{RunsArePairRuns, EveryInputFits}

-- every run of the cluster is one of pairs
pub runs_are_pair_runs : RunsArePairRuns
runs_are_pair_runs = by.runs_are_pair_runs pair_messages_are_addressed

-- in every run what may happen fits
pub every_input_fits : EveryInputFits
every_input_fits = by.every_input_fits pair_messages_are_addressed pair_inputs_fit
