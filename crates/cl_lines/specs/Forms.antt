-- What the reader's forms of a command mean: the command, or the first fault of its arguments.
use Rattle.std.specs.Prelude.{Result, Ok}
use Rattle.cl_types.specs.declared.operations.Command.{Command}
use Rattle.cl_types.specs.declared.operations.Command.TheVariants.{Begin, Commit, Abort}
use Rattle.cl_types.specs.declared.operations.Op.{Op}
use Rattle.cl_types.specs.declared.operations.Op.TheVariants.{Get, Del}
use Rattle.cl_lines.specs.declared.line.LineFault.{LineFault}
use Rattle.cl_lines.specs.declared.reading.Verb.{Verb}
use Rattle.cl_lines.specs.declared.reading.Verb.TheVariants as verbs
use Rattle.cl_lines.specs.declared.reading.Form.{Form}
use Rattle.cl_lines.specs.declared.reading.Form.TheVariants as forms
use Rattle.cl_lines.specs.Line.{put_of, add_of, on_record}

-- the operation of a verb and its argument
abbrev pub operation_of : Verb → Result Op LineFault
operation_of verbs.Get = Ok Get
operation_of verbs.Del = Ok Del
operation_of (verbs.Put argument) = put_of argument.now
operation_of (verbs.Add argument) = add_of argument.now

-- the command of a form
abbrev pub command_of_form : Form → Result Command LineFault
command_of_form forms.Begin = Ok Begin
command_of_form forms.Commit = Ok Commit
command_of_form forms.Abort = Ok Abort
command_of_form (forms.Work table key verb) = on_record table.now key.now (operation_of verb)
