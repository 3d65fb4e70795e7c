use Rattle.cl_order.proofs.LawLemmas.{end_keeps_order}
use Rattle.cl_order.proofs.laws.end_keeps_order.Goals as goal

pub returns : goal.returns
returns c = end_keeps_order
