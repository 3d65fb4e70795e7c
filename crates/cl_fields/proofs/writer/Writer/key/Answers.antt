use Rattle.std.proofs.Common.{◌≤◌, length, arith}
use Rattle.cl_fields.proofs.Lengths.{length-key}
use Rattle.cl_fields.proofs.writer.Writer.key.Goals as goal

pub name-requires : goal.name-requires
name-requires c =
    let short : length c.args.key.now ≤ 32 = length-key c.args.key.now c.requires in
    rw c.bytes.ensures (omega arith)
