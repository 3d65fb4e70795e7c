use Rattle.std.proofs.Common.{subst, ◌∙◌, ap, arith}
use Rattle.cl_wire.specs.PacketReading.{Decodes, read_packet}
use Rattle.cl_wire.proofs.PacketLaws.{spelled_is_found, decoded_is_spelled}
use Rattle.cl_wire.proofs.decoding.decode.Goals as goal

pub returns-clause-found : goal.returns-clause-found
returns-clause-found c = decoded_is_spelled c.args.bytes.now c.read_whole.result (λ place. omega (arith, c.type_inv.bytes place)) c.read_whole.ensures

pub returns-clause-only : goal.returns-clause-only
returns-clause-only c = λ m spells. subst (λ read. Decodes c.read_whole.result read) (ap read_packet spells.text ∙ spelled_is_found m spells.range) c.read_whole.ensures
