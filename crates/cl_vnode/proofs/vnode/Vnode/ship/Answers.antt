-- What is shipped stands before what else is sent.
use Rattle.std.proofs.Common.{◌+◌, ◌∙◌}
use Rattle.std.proofs.lemmas.Result.{IfOk-weaker}
use Rattle.cl_vnode.proofs.Performing.{shipped_alike}
use Rattle.cl_vnode.proofs.vnode.Vnode.ship.Goals as goal

pub returns : goal.returns
returns c done has =
    IfOk-weaker c.ship.result _ _
    (λ steps gave. record
    { state = has.state; step = gave ∙ shipped_alike c.args.self.now c.args.steps done (c.args.last + 1) c.mode.result has c.mode.ensures })
    c.ship.ensures
