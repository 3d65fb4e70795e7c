use Rattle.cl_lists.specs.Arena.{free_slots}
use Rattle.cl_lists.proofs.arena.Arena.room.Goals as goal

pub returns : goal.returns
unfolding free_slots
returns g c = c.args.self.now.free_counted
