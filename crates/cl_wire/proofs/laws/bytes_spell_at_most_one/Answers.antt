use Rattle.cl_wire.proofs.PacketLaws.{spells_one}
use Rattle.cl_wire.proofs.laws.bytes_spell_at_most_one.Goals as goal

pub returns : goal.returns
returns c = spells_one
