-- Something is under way at a replica on both sides.
use Rattle.std.proofs.Common.{◌∙◌}
use Rattle.cl_node.proofs.Slots.{any_under_way}
use Rattle.cl_node.proofs.node_core.NodeCore.busy.Goals as goal

pub returns : goal.returns
returns c state is = c.is_any_busy.ensures ∙ any_under_way _ _ is
