use Rattle.std.proofs.Common.{get_or, ap}
use Rattle.std.proofs.lemmas.List.Edits.{map_over_more}
use Rattle.cl_link.specs.LinkState.{after_again}
use Rattle.cl_endpoint.proofs.endpoint.Endpoint.tick.Goals as goal

pub loop-link-preserved : goal.loop-link-preserved
loop-link-preserved c =
    rw c.again.ensures
    (map_over_more after_again c.deref_mut-link-items.result.now c.loop-link.link-items c.loop-link.link-index
    (get_or c.loop-link.link-items c.loop-link.link-index c.link-item.result)
    c.loop-link-test.true c.loop-link.invariant
    (ap (λ link. get_or c.loop-link.link-items c.loop-link.link-index link) c.link-item.is))
