use Rattle.cl_wire.proofs.PacketLaws.{spelled_is_found, read_is_spelled}
use Rattle.cl_wire.proofs.laws.spelling_and_reading_agree.Goals as goal

pub returns-clause-spelled : goal.returns-clause-spelled
returns-clause-spelled c = spelled_is_found

pub returns-clause-read : goal.returns-clause-read
returns-clause-read c = read_is_spelled
