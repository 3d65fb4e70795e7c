use Rattle.std.proofs.Common.{◌-◌, length, map, sym, ap, arith}
use Rattle.std.proofs.lemmas.List.{length-map}
use Rattle.cl_steps.specs.declared.packets.TheConstants.{PACKETS_MAX}
use Rattle.cl_wire.specs.Message.{message_of}
use Rattle.cl_endpoint.proofs.Emissions.{HasEmittedBelow-none, HasEmittedBelow-one, HasEmittedBelow-all}
use Rattle.cl_endpoint.proofs.endpoint.Endpoint.emit_due.Goals as goal

pub loop-peer-init : goal.loop-peer-init
loop-peer-init c = HasEmittedBelow-none _ _ _

pub loop-peer-preserved : goal.loop-peer-preserved
loop-peer-preserved c =
    HasEmittedBelow-one c.args.self.now c.loop-peer.self c.emit_due_to.new.self c.loop-peer.peer PACKETS_MAX
    (PACKETS_MAX - length c.args.packets.now.items) (PACKETS_MAX - length c.loop-peer.packets.items)
    (map message_of c.args.packets.now.items) (map message_of c.loop-peer.packets.items) (map message_of c.emit_due_to.new.packets.items)
    c.loop-peer.invariant (ap (λ n. PACKETS_MAX - n) (sym (length-map _ _))) (ap (λ n. PACKETS_MAX - n) (sym (length-map _ _)))
    c.in_ok-emit_due_to.ensures.packets c.in_ok-emit_due_to.ensures.after

pub returns-clause-packets : goal.returns-clause-packets
returns-clause-packets c = (HasEmittedBelow-all _ _ _ _ _ _ (omega (arith, c.self.invariant.1, ap (λ state. length state.links) c.self.view_is)) c.loop-peer.invariant).0

pub returns-clause-after : goal.returns-clause-after
returns-clause-after c = (HasEmittedBelow-all _ _ _ _ _ _ (omega (arith, c.self.invariant.1, ap (λ state. length state.links) c.self.view_is)) c.loop-peer.invariant).1
