use Rattle.std.proofs.Common.{◌++◌, ◌∷◌, [], map, ap, ◌∙◌, arith}
use Rattle.std.proofs.lemmas.List.{get_or_read, map-append}
use Rattle.cl_link.specs.LinkState.{no_message}
use Rattle.cl_wire.specs.Message.{message_of}
use Rattle.cl_endpoint.specs.Endpoint.{link_to}
use Rattle.cl_endpoint.proofs.Emissions.{packet_to-made}
use Rattle.cl_endpoint.proofs.endpoint.Endpoint.emit_to.Goals as goal

pub returns-clause-packets : goal.returns-clause-packets
returns-clause-packets c =
    let link = get_or_read c.self.inside.links.items c.args.peer _ (omega (arith, c.self.invariant.1)) c.index_mut-link.ensures.value no_message
    ∙ ap (λ state. link_to state c.args.peer) c.self.view_is in
    let packet = packet_to-made c.args.self.now c.args.peer _ _ _ _ _ _ _ (ap (λ state. state.me) c.self.view_is) c.set_number-set.ensures c.in_ok-seq.ensures
    link c.sent.ensures c.accepted.ensures in
    ap (map message_of) c.in_ok-push.ensures.items ∙ map-append message_of c.args.packets.now.items _
    ∙ ap (λ m. map message_of c.args.packets.now.items ++ m ∷ []) packet
