use Rattle.cl_wire.proofs.PacketLaws.{begins_none}
use Rattle.cl_wire.proofs.laws.no_spelling_begins_another.Goals as goal

pub returns : goal.returns
returns c = begins_none
