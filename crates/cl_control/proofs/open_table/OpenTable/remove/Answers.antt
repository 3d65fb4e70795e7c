use Rattle.std.proofs.Common.{map, ap, ◌∙◌}
use Rattle.cl_control.specs.State.{without}
use Rattle.cl_control.specs.Table.{entry_of_pair}
use Rattle.cl_control.proofs.Tables.{without-pairs}
use Rattle.cl_control.proofs.open_table.OpenTable.remove.Goals as goal

pub returns : goal.returns
returns c = ap (map entry_of_pair) c.shift_remove.ensures.entries ∙ without-pairs c.args.txn _ c.self.invariant ∙ ap (without c.args.txn) c.self.view_is
