use Rattle.cl_redo.proofs.NoConflict.{no_conflict_of_table}
use Rattle.cl_redo.proofs.laws.tables_have_no_conflict.Goals as goal

pub returns : goal.returns
returns c = no_conflict_of_table
