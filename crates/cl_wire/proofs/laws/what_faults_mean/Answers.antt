use Rattle.cl_wire.proofs.FaultLaws.{longer_is_rest, rest_is_longer, kind_is_second_byte, fault_stays, beginning_is_short, short_ends, version_is_first_byte}
use Rattle.cl_wire.proofs.laws.what_faults_mean.Goals as goal

pub returns-clause-longer : goal.returns-clause-longer
returns-clause-longer c = longer_is_rest

pub returns-clause-rest : goal.returns-clause-rest
returns-clause-rest c = rest_is_longer

pub returns-clause-kind : goal.returns-clause-kind
returns-clause-kind c = kind_is_second_byte

pub returns-clause-stays : goal.returns-clause-stays
returns-clause-stays c = fault_stays

pub returns-clause-beginning : goal.returns-clause-beginning
returns-clause-beginning c = beginning_is_short

pub returns-clause-end : goal.returns-clause-end
returns-clause-end c = short_ends

pub returns-clause-version : goal.returns-clause-version
returns-clause-version c = version_is_first_byte
