use Rattle.std.proofs.Common.{arith}
use Rattle.cl_wire.proofs.encoding.write_part.Goals as goal

pub small-requires : goal.small-requires
small-requires c = omega (arith, c.requires.v)
