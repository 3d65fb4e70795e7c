-- The node has a state, and each state fits a tick.
use Rattle.cl_tests_nodes.proofs.cluster.node_ticks.Goals as goal

pub tick-requires : goal.tick-requires
tick-requires c = let one = c.every_node_has_state.ensures c.args.node.now in record { fits = (one.0, one.1, tt) }
