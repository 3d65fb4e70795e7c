-- The record is one that the participant may take.
use Rattle.std.proofs.Common.{sym, subst}
use Rattle.cl_vnode.specs.Taking.{TakesHere}
use Rattle.cl_vnode.proofs.Takes.{takes_here}
use Rattle.cl_vnode.proofs.vnode.Vnode.take_record.Goals as goal

pub take_record-requires-clause-takes : goal.take_record-requires-clause-takes
take_record-requires-clause-takes c =
    let takes = c.requires.takes in
    subst (TakesHere c.args.self.now.part c.args.number) (sym c.in_ok-copied.ensures)
    (takes_here c.args.self.now.part takes.0.part takes.1.part c.args.number c.args.content.now takes.2)
