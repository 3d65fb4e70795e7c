use Rattle.std.proofs.Common.{arith, ap}
use Rattle.cl_link.specs.LinkState.{last_number}
use Rattle.cl_link.proofs.LinkLemmas.{pushed_within}
use Rattle.cl_link.proofs.link.Link.send.Goals as goal

pub invariant_of-self : goal.invariant_of-self
invariant_of-self g c =
    pushed_within _ _ _ _ _ _ _ c.push_back.ensures.items
    (λ full. c.if-last-eq-NUMBER_MAX.false (omega (arith, ap last_number c.self.view_is))) c.self.invariant.0
    c.self.invariant.1
