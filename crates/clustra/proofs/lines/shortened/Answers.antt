-- A line that is not too long is kept whole.
use Rattle.std.proofs.Common.{◌+◌, sym, arith}
use Rattle.std.proofs.lemmas.List.{take_all}
use Rattle.cl_lines.specs.declared.line.TheConstants.{LINE_MAX}
use Rattle.clustra.proofs.lines.shortened.Goals as goal

pub returns-then-line-le-LINE_MAX : goal.returns-then-line-le-LINE_MAX
returns-then-line-le-LINE_MAX c = sym (take_all (LINE_MAX + 1) c.args.line.now (omega arith))
