use Rattle.std.proofs.Common.{sym, ◌∙◌}
use Rattle.cl_control.proofs.Entries.{without_told-logged, without_told-not_logged}
use Rattle.cl_control.proofs.open_table.OpenTable.remove_logged.Goals as goal

pub returns-then-is_logged : goal.returns-then-is_logged
returns-then-is_logged c number =
    c.remove.ensures ∙ sym (without_told-logged c.args.txn number c.args.self.now c.is_logged.ensures.names (sym c.is_logged.ensures.logged ∙ c.if-is_logged.true))

pub returns-else-is_logged : goal.returns-else-is_logged
returns-else-is_logged c number =
    sym (without_told-not_logged c.args.txn number c.args.self.now c.is_logged.ensures.names (sym c.is_logged.ensures.logged ∙ c.if-is_logged.false))
