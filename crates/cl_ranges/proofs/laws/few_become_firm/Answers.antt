use Rattle.cl_ranges.proofs.Firm.{few_become_firm}
use Rattle.cl_ranges.proofs.laws.few_become_firm.Goals as goal

pub returns : goal.returns
returns c = record { few = few_become_firm }
