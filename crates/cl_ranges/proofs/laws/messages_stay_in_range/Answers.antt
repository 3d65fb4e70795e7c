use Rattle.cl_ranges.proofs.FirmRuns.{firm_runs_are_in_range}
use Rattle.cl_ranges.proofs.laws.messages_stay_in_range.Goals as goal

pub returns : goal.returns
returns c = firm_runs_are_in_range
