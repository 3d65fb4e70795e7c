use Rattle.std.proofs.Common.{arith}
use Rattle.cl_link.proofs.KeptLemmas.{due_index-le, due_index-due, due_index-sent}
use Rattle.cl_link.proofs.kept.index_of_due.Goals as goal

pub returns-then-index : goal.returns-then-index
returns-then-index g c = due_index-due _ _ _ c.loop-index.invariant (omega arith) c.index.ensures c.if-index.true

pub loop-index-preserved : goal.loop-index-preserved
loop-index-preserved g c = due_index-sent _ _ _ c.loop-index.invariant (omega arith) c.index.ensures c.if-index.false

pub returns : goal.returns
returns g c = omega (arith, due_index-le c.args.kept.now.items)
