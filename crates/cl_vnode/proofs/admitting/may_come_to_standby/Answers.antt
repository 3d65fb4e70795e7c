-- A record comes where it is the next that may be taken.
use Rattle.cl_vnode.proofs.Takes.{takes_record, takes_here}
use Rattle.cl_vnode.proofs.admitting.may_come_to_standby.Goals as goal

pub returns-in-Log : goal.returns-in-Log
returns-in-Log c = λ state is.
    rw c.in-Log.is (
      λ may. takes_record c.args.part.now state.part is c.in-Log.number c.in-Log.content (c.may_take.ensures.0 may),
      λ takes. c.may_take.ensures.1 (takes_here c.args.part.now state.part is c.in-Log.number c.in-Log.content takes),
    )
