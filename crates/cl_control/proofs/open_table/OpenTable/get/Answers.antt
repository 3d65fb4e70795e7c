use Rattle.std.proofs.Common.{option_map, ap, ◌∙◌}
use Rattle.cl_control.specs.State.{entry_named}
use Rattle.cl_control.specs.Table.{named}
use Rattle.cl_control.proofs.Tables.{entry_named-pairs}
use Rattle.cl_control.proofs.open_table.OpenTable.get.Goals as goal

pub returns : goal.returns
returns c = ap (option_map (named c.args.txn)) c.get.ensures.value ∙ entry_named-pairs c.args.txn _ ∙ ap (entry_named c.args.txn) c.self.view_is
