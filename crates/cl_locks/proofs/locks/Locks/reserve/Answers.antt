use Rattle.cl_locks.specs.Table.{grants_at}
use Rattle.cl_locks.proofs.Listed.{IsListed-kept, grants_on-kept}
use Rattle.cl_locks.proofs.locks.Locks.reserve.Goals as goal

pub invariant_of-self-clause-listed : goal.invariant_of-self-clause-listed
invariant_of-self-clause-listed c = IsListed-kept c.args.self.now.granted c.make_room.new.granted c.make_room.ensures.kept c.args.self.now.listed

pub invariant_of-self-clause-compatible : goal.invariant_of-self-clause-compatible
invariant_of-self-clause-compatible c = λ place.
    rw (grants_on-kept c.args.self.now.granted c.make_room.new.granted c.make_room.ensures.kept place) (c.args.self.now.compatible place)

pub returns-clause-same : goal.returns-clause-same
unfolding grants_at
returns-clause-same c = grants_on-kept c.args.self.now.granted c.make_room.new.granted c.make_room.ensures.kept
