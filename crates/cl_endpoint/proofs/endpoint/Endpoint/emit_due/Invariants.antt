use Rattle.std.proofs.Common.{◌-◌, map, length}
use Rattle.cl_steps.specs.declared.packets.TheConstants.{PACKETS_MAX}
use Rattle.cl_wire.specs.Message.{message_of}
use Rattle.cl_endpoint.proofs.Emissions.{HasEmittedBelow}
use Rattle.cl_endpoint.proofs.endpoint.Endpoint.emit_due.Given as goal

abbrev pub invariant-loop-peer : goal.invariant-loop-peer
invariant-loop-peer l =
    HasEmittedBelow l.initial.self l.self l.peer (PACKETS_MAX - length l.initial.packets.items) (map message_of l.initial.packets.items) (map message_of l.packets.items)
