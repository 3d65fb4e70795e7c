use Rattle.std.proofs.Common.{◌≡◌, ◌++◌, map, take, drop}
use Rattle.cl_link.specs.LinkState.{after_again}
use Rattle.cl_endpoint.proofs.endpoint.Endpoint.tick.Given as goal

abbrev pub invariant-loop-link : goal.invariant-loop-link
invariant-loop-link l =
    l.link-items ≡ map after_again (take l.link-index l.initial.link-items) ++ drop l.link-index l.initial.link-items
