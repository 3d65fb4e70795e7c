use Rattle.std.proofs.Common.{ap, ◌∙◌}
use Rattle.cl_control.specs.Sound.{is_logged_here}
use Rattle.cl_control.proofs.Kept.{kept-without}
use Rattle.cl_control.proofs.control.Control.abort.Goals as goal

pub invariant_of-self : goal.invariant_of-self
invariant_of-self c =
    kept-without _ c.self.invariant.0 c.args.txn _ _ c.self.invariant.1 (ap (λ state. is_logged_here state c.args.txn) c.self.view_is ∙ c.requires) c.remove.ensures
