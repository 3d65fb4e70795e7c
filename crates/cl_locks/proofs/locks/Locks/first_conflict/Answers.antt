use Rattle.std.proofs.Common.{Some, None, rules, sym, ap, ◌∙◌}
use Rattle.cl_locks.specs.Grants.{Grant, is_in_conflict}
use Rattle.cl_locks.specs.Table.{grants_at}
use Rattle.cl_locks.proofs.TableFacts.{first_conflict-found}
use Rattle.cl_locks.proofs.locks.Locks.first_conflict.Goals as goal

pub returns-in_err-slot : goal.returns-in_err-slot
unfolding grants_at
returns-in_err-slot c =
    let none = c.in_err-slot.ensures.grant (is_in_conflict c.args.txn (c.args.table.now, c.args.key.now) c.args.mode) (λ grant answer says. search rules) in
    c.from_residual.ensures ∙ sym (first_conflict-found c.args.self.now.granted c.args.txn (c.args.table.now, c.args.key.now) c.args.mode None (sym none))

pub returns : goal.returns
unfolding grants_at
returns c =
    let found = c.in_ok-slot.ensures.grant (is_in_conflict c.args.txn (c.args.table.now, c.args.key.now) c.args.mode) (λ grant answer says. search rules) in
    ap (λ (g : Grant). Some g.txn) c.behind-self.view_is
    ∙ sym (first_conflict-found c.args.self.now.granted c.args.txn (c.args.table.now, c.args.key.now) c.args.mode (Some c.get.result.now) (sym found ∙ c.get.ensures))
