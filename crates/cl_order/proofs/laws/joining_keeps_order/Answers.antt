use Rattle.cl_order.proofs.LawLemmas.{joining_keeps_order}
use Rattle.cl_order.proofs.laws.joining_keeps_order.Goals as goal

pub returns : goal.returns
returns c = joining_keeps_order
