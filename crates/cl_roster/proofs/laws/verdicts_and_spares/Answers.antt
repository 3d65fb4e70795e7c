use Rattle.cl_roster.proofs.Repairs.{SpareMeans-spare_of, IsLawfulRepair-spare_of}
use Rattle.cl_roster.proofs.Verdict.{VerdictMeans-stop_verdict}
use Rattle.cl_roster.proofs.laws.verdicts_and_spares.Goals as goal

pub returns : goal.returns
returns c = record { verdict = VerdictMeans-stop_verdict; spare = SpareMeans-spare_of; lawful = IsLawfulRepair-spare_of }
