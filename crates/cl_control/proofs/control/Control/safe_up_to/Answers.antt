use Rattle.cl_control.proofs.Kept.{kept-safe}
use Rattle.cl_control.proofs.control.Control.safe_up_to.Goals as goal

pub invariant_of-self : goal.invariant_of-self
invariant_of-self c =
    kept-safe _ c.self.invariant.0 c.args.number c.count_up_to-count.result _ _ _ _ c.self.invariant.1
    c.count_up_to-count.ensures.first c.count_up_to-count.ensures.rest c.remove_first.ensures.transactions c.remove_first.ensures.waiting c.remove_first.ensures.capacity
