use Rattle.std.proofs.Common.{rules, refl, sym, ◌∙◌}
use Rattle.cl_locks.specs.Grants.{is_of}
use Rattle.cl_locks.specs.Table.{grants_at}
use Rattle.cl_locks.proofs.TableFacts.{own_grant-found}
use Rattle.cl_locks.proofs.locks.Locks.slot_of.Goals as goal

pub returns-clause-grant : goal.returns-clause-grant
unfolding grants_at
returns-clause-grant c =
    let found = c.find.ensures.grant (is_of c.args.txn (c.args.table.now, c.args.key.now)) (λ grant answer says. search rules) in
    found ∙ sym (own_grant-found c.args.self.now.granted c.args.txn (c.args.table.now, c.args.key.now) _ refl)
