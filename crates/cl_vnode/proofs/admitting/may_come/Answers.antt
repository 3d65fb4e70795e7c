-- The standby is a node, and the message may come.
use Rattle.cl_vnode.proofs.admitting.may_come.Goals as goal

pub returns-then-is_standby_below : goal.returns-then-is_standby_below
returns-then-is_standby_below c = λ state control is.
    let both = c.comes.ensures state control is in
    (λ comes. (c.is_standby_below.ensures.0 c.if-is_standby_below.true, both.0 comes), λ fits. both.1 fits.1)
