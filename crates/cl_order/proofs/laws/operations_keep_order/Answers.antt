use Rattle.cl_order.proofs.LawLemmas.{operations_keep_order}
use Rattle.cl_order.proofs.laws.operations_keep_order.Goals as goal

pub returns : goal.returns
returns c = operations_keep_order
