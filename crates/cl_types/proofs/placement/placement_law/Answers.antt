use Rattle.cl_types.proofs.PlacementLaws.{virtual_node_of-below}
use Rattle.cl_types.proofs.placement.placement_law.Goals as goal

pub returns : goal.returns
returns c = virtual_node_of-below
