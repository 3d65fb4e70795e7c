use Rattle.std.proofs.Common.{◌≤◌, length, arith}
use Rattle.cl_fields.proofs.Lengths.{length-table}
use Rattle.cl_fields.proofs.writer.Writer.table.Goals as goal

pub name-requires : goal.name-requires
name-requires c =
    let short : length c.args.table.now ≤ 8 = length-table c.args.table.now c.requires in
    rw c.bytes.ensures (omega arith)
