use Rattle.cl_locks.proofs.Listed.{IsKept-added}
use Rattle.cl_locks.proofs.locks.add_missing_lists.Goals as goal

pub returns-clause-kept : goal.returns-clause-kept
returns-clause-kept c =
    IsKept-added c.args.granted.now c.add_lists.new.self c.args.side c.saturating_sub-missing.result c.add_lists.result c.add_lists.ensures.ok c.add_lists.ensures.err c.add_lists.ensures.other c.add_lists.ensures.items
