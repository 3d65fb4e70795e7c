use Rattle.cl_lines.proofs.Printed.{one_line}
use Rattle.cl_lines.proofs.laws.each_answer_is_one_line.Goals as goal

pub returns : goal.returns
returns c = one_line
