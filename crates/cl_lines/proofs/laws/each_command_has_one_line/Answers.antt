use Rattle.cl_lines.proofs.Spellings.{spells_from_line, line_from_spells}
use Rattle.cl_lines.proofs.laws.each_command_has_one_line.Goals as goal

pub returns : goal.returns
returns c = λ bytes session command. (spells_from_line bytes session command, line_from_spells bytes session command)
