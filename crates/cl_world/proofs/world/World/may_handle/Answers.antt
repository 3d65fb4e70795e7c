use Rattle.std.proofs.Common.{sym}
use Rattle.cl_world.proofs.Handles.{may_handle_where}
use Rattle.cl_world.proofs.world.World.may_handle.Goals as goal

pub returns : goal.returns
returns c = λ shape moment at whole.
    may_handle_where shape moment c.args.self.now.mail c.args.actor c.args.id c.in-Some.index c.in-Some-get.packet.now c.admits.result at.mail c.in-Some.ensures.0 (sym c.in-Some.ensures.1) c.in-Some-get.ensures (c.admits.ensures shape moment at whole)
