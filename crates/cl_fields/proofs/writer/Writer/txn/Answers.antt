use Rattle.std.proofs.Common.{arith}
use Rattle.cl_fields.proofs.writer.Writer.txn.Goals as goal

pub small-requires : goal.small-requires
small-requires c = omega (arith, c.requires.high)
