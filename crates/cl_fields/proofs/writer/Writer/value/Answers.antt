use Rattle.std.proofs.Common.{◌≤◌, length, arith}
use Rattle.cl_fields.proofs.Lengths.{length-value}
use Rattle.cl_fields.proofs.writer.Writer.value.Goals as goal

pub overflow_cast-bytes : goal.overflow_cast-bytes
overflow_cast-bytes c =
    let short : length c.args.value.now ≤ 128 = length-value c.args.value.now c.requires in
    rw c.bytes-bytes.ensures (omega arith)
