use Rattle.std.proofs.Common.{ap, ◌∙◌}
use Rattle.cl_control.specs.State.{phase_of}
use Rattle.cl_control.proofs.Kept.{kept-asked, room-joined}
use Rattle.cl_control.proofs.control.Control.work.Goals as goal

pub ask-requires : goal.ask-requires
ask-requires c =
    room-joined _ c.self.invariant.0 c.args.txn c.args.number c.vnode_of-v.result c.vnode_of-v.ensures.below
    (ap (λ state. phase_of state c.args.txn) c.self.view_is ∙ c.requires)

pub invariant_of-self : goal.invariant_of-self
invariant_of-self c =
    kept-asked _ c.self.invariant.0 c.args.txn _ _ c.self.invariant.1 c.args.number c.vnode_of-v.result c.vnode_of-v.ensures.below
    (ap (λ state. phase_of state c.args.txn) c.self.view_is ∙ c.requires) c.ask.ensures
