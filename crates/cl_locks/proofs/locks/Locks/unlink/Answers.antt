use Rattle.cl_locks.proofs.Listed.{IsListed-unlinked, HasRoomFor-unlinked}
use Rattle.cl_locks.proofs.TableFacts.{compatible-unlinked}
use Rattle.cl_locks.proofs.locks.Locks.unlink.Goals as goal

pub invariant_of-self-clause-listed : goal.invariant_of-self-clause-listed
invariant_of-self-clause-listed c = IsListed-unlinked c.args.self.now.granted c.unlink.new.self c.args.slot c.unlink.result c.unlink.ensures.unlinks c.args.self.now.listed

pub invariant_of-self-clause-compatible : goal.invariant_of-self-clause-compatible
invariant_of-self-clause-compatible c = compatible-unlinked c.args.self.now.granted c.unlink.new.self c.args.slot c.unlink.result c.unlink.ensures.unlinks c.args.self.now.listed c.args.self.now.compatible

pub returns-clause-room : goal.returns-clause-room
returns-clause-room c = HasRoomFor-unlinked c.args.self.now.granted c.unlink.new.self c.args.slot c.unlink.result c.unlink.ensures.unlinks c.args.self.now.listed c.unlink.ensures.room
