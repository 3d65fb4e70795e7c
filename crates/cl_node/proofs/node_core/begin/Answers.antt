-- One slot has changed, on both sides.
use Rattle.std.proofs.Common.{Some}
use Rattle.cl_node.proofs.Slots.{zip_set}
use Rattle.cl_node.proofs.node_core.begin.Goals as goal
use Rattle.cl_node.specs.Node.{first_member}

pub returns : goal.returns
returns c before are = zip_set c.args.replicas.now before c.args.v _ (Some (first_member c.args.nodes c.args.v)) are c.first_member.ensures
