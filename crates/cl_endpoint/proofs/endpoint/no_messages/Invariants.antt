use Rattle.std.proofs.Common.{◌≡◌, replicate}
use Rattle.cl_link.specs.LinkState.{no_message}
use Rattle.cl_endpoint.proofs.endpoint.no_messages.Given as goal

abbrev pub invariant-loop : goal.invariant-loop
invariant-loop l = l.links.items ≡ replicate l.counter no_message
