use Rattle.cl_locks.specs.Table.{grants_at}
use Rattle.cl_locks.proofs.Compatible.{are_compatible-none}
use Rattle.cl_locks.proofs.Listed.{IsListed-new, grants_on-new}
use Rattle.cl_locks.proofs.locks.Locks.new.Goals as goal

pub invariant_of-result-clause-listed : goal.invariant_of-result-clause-listed
invariant_of-result-clause-listed c = IsListed-new c.new.result c.new.ensures.items

pub invariant_of-result-clause-compatible : goal.invariant_of-result-clause-compatible
invariant_of-result-clause-compatible c = λ place. rw (grants_on-new c.new.result place c.new.ensures.x) are_compatible-none

pub returns : goal.returns
unfolding grants_at
returns c = λ place. grants_on-new c.new.result place c.new.ensures.x
