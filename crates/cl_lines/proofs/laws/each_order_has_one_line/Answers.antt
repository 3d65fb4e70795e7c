use Rattle.cl_lines.proofs.Spellings.{order_from_line, line_from_order}
use Rattle.cl_lines.proofs.laws.each_order_has_one_line.Goals as goal

pub returns : goal.returns
returns c = λ bytes order. (order_from_line bytes order, line_from_order bytes order)
