-- A front that admits lines has a state that fits each line.
use Rattle.std.proofs.Common.{rules}
use Rattle.cl_tests_nodes.proofs.cluster.front_feeds.Goals as goal

pub feed-requires : goal.feed-requires
feed-requires g c = let one = c.admits_lines.ensures.admitted (search rules) in record { fits = (one.0, one.1, one.2 _ _ _) }
