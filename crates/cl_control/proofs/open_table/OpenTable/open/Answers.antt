use Rattle.std.proofs.Common.{[], ◌∷◌, ◌++◌, map, ap, ◌∙◌}
use Rattle.std.specs.List.{list_any}
use Rattle.cl_types.specs.Transactions.{same_txn}
use Rattle.cl_control.specs.declared.entry.Phase.TheVariants.{Idle}
use Rattle.cl_control.specs.Table.{entry_of_pair}
use Rattle.cl_control.proofs.Tables.{insert_entry-pairs}
use Rattle.cl_control.proofs.open_table.OpenTable.open.Goals as goal

pub returns-clause-ok : goal.returns-clause-ok
returns-clause-ok c =
    ap (map entry_of_pair) c.in_ok-insert.ensures.entries
    ∙ insert_entry-pairs c.args.txn c.self.inside.entries.entries (record { participants = c.new.result; votes = c.new-2.result; phase = Idle })
    (ap (list_any (λ entry. same_txn c.args.txn entry.txn)) c.self.view_is ∙ c.requires)
    ∙ ap (λ entries. entries ++ record { txn = c.args.txn; participants = c.new.result.items; votes = c.new-2.result.items; phase = Idle } ∷ []) c.self.view_is
    ∙ ap (λ items. c.args.self.now ++ record { txn = c.args.txn; participants = items; votes = c.new-2.result.items; phase = Idle } ∷ []) c.new.ensures
    ∙ ap (λ items. c.args.self.now ++ record { txn = c.args.txn; participants = []; votes = items; phase = Idle } ∷ []) c.new-2.ensures
