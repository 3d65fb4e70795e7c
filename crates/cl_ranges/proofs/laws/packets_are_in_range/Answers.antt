use Rattle.cl_ranges.proofs.Runs.{given_is_in_range, packets_are_in_range}
use Rattle.cl_ranges.proofs.laws.packets_are_in_range.Goals as goal

pub returns-clause-given : goal.returns-clause-given
returns-clause-given c = given_is_in_range

pub returns-clause-packets : goal.returns-clause-packets
returns-clause-packets c = packets_are_in_range
