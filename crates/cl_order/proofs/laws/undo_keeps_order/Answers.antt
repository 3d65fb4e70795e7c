use Rattle.cl_order.proofs.LawLemmas.{undo_keeps_order}
use Rattle.cl_order.proofs.laws.undo_keeps_order.Goals as goal

pub returns : goal.returns
returns c = undo_keeps_order
