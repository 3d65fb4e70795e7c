use Rattle.cl_link.proofs.LinkLemmas.{due_of-at, due_of-none}
use Rattle.cl_link.proofs.link.Link.due.Goals as goal

pub returns-in_err-message : goal.returns-in_err-message
returns-in_err-message g c =
    rw c.from_residual.ensures
    (due_of-none _ _ _ c.self.view_is c.self.invariant.1 c.in_err-message.ensures.item.3)

pub returns : goal.returns
returns g c = due_of-at _ _ _ _ c.self.view_is c.self.invariant.1 c.in_ok-message.ensures.item.3.0 c.in_ok-message.ensures.lookup
