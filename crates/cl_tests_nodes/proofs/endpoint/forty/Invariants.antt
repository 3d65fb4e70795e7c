use Rattle.std.proofs.Common.{◌<◌}
use Rattle.std.specs.List.{All}
use Rattle.cl_endpoint.specs.declared.limits.TheConstants.{ACTORS}
use Rattle.cl_types.specs.GrowingList.{items}
use Rattle.cl_tests_nodes.proofs.endpoint.forty.Given as goal

abbrev pub invariant-loop-number : goal.invariant-loop-number
invariant-loop-number l = All (λ send. send.to < ACTORS) (items l.sends)
