use Rattle.cl_order.proofs.LawLemmas.{prepared_keeps_order, decide_keeps_order}
use Rattle.cl_order.proofs.laws.marks_keep_order.Goals as goal

pub returns-clause-prepared : goal.returns-clause-prepared
returns-clause-prepared c = prepared_keeps_order

pub returns-clause-decide : goal.returns-clause-decide
returns-clause-decide c = decide_keeps_order
