use Rattle.cl_order.proofs.LawLemmas.{cut_keeps_order}
use Rattle.cl_order.proofs.laws.cut_keeps_order.Goals as goal

pub returns : goal.returns
returns c = cut_keeps_order
