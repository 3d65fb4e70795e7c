use Rattle.cl_pairs.proofs.Streams.{pairs_are_one_log, pairs_agree, all_is_acknowledged}
use Rattle.cl_pairs.proofs.laws.pairs_are_one_log.Goals as goal

pub returns-clause-log : goal.returns-clause-log
returns-clause-log c = pairs_are_one_log

pub returns-clause-agree : goal.returns-clause-agree
returns-clause-agree c = pairs_agree

pub returns-clause-acknowledged : goal.returns-clause-acknowledged
returns-clause-acknowledged c = all_is_acknowledged
