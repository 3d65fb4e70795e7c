use Rattle.std.proofs.Common.{◌≡◌, ◌-◌, ◌≤◌, map, length}
use Rattle.cl_steps.specs.declared.packets.TheConstants.{PACKETS_MAX}
use Rattle.cl_wire.specs.Message.{message_of}
use Rattle.cl_endpoint.proofs.Emissions.{HasEmitted}
use Rattle.cl_endpoint.proofs.endpoint.Endpoint.emit_due_to.Given as goal

abbrev pub invariant-loop : goal.invariant-loop
invariant-loop l =
    HasEmitted l.initial.self l.self l.peer (l.counter - length l.initial.packets.items) (map message_of l.initial.packets.items) (map message_of l.packets.items)
    × (length l.packets.items ≡ l.counter)
    × (l.counter - length l.initial.packets.items ≤ PACKETS_MAX - length l.initial.packets.items)
