use Rattle.std.proofs.Common.{arith, sym}
use Rattle.cl_world.proofs.Packets.{kept_bound}
use Rattle.cl_world.proofs.world.World.way.Goals as goal

pub overflow_add-result : goal.overflow_add-result
overflow_add-result c =
    let bound = kept_bound c.args.self.now.mail 0 c.args.place c.in_ok-index.index c.in_ok-index.packet.now (sym c.in_ok-index.ensures) in
    omega (arith, bound)
