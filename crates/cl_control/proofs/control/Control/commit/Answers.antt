use Rattle.std.proofs.Common.{ap, ◌∙◌}
use Rattle.cl_control.specs.State.{phase_of}
use Rattle.cl_control.proofs.Kept.{kept-committing}
use Rattle.cl_control.proofs.control.Control.commit.Goals as goal

pub invariant_of-self : goal.invariant_of-self
invariant_of-self c =
    kept-committing _ c.self.invariant.0 c.args.txn _ _ c.self.invariant.1 c.args.number
    (ap (λ state. phase_of state c.args.txn) c.self.view_is ∙ c.requires) c.commit.ensures
