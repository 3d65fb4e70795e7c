use Rattle.std.proofs.Common.{◌++◌, map, ap, sym, ◌∙◌}
use Rattle.std.proofs.lemmas.List.{length-map}
use Rattle.cl_wire.specs.Message.{message_of}
use Rattle.cl_endpoint.specs.Emission.{owed_packets}
use Rattle.cl_endpoint.proofs.Emissions.{emission_whole}
use Rattle.cl_endpoint.proofs.endpoint.Endpoint.emit.Goals as goal

pub returns-clause-packets : goal.returns-clause-packets
returns-clause-packets c =
    (emission_whole _ _ _ _ _ _ _
    (c.in_ok-emit_owed.ensures.packets ∙ ap (λ none. map message_of none ++ owed_packets c.args.self.now c.args.owed) c.new-packets.ensures.items)
    (sym (length-map _ message_of)) c.in_ok-emit_owed.ensures.after c.in_ok-emit_due.ensures.packets c.in_ok-emit_due.ensures.after).0

pub returns-clause-after : goal.returns-clause-after
returns-clause-after c =
    (emission_whole _ _ _ _ _ _ _
    (c.in_ok-emit_owed.ensures.packets ∙ ap (λ none. map message_of none ++ owed_packets c.args.self.now c.args.owed) c.new-packets.ensures.items)
    (sym (length-map _ message_of)) c.in_ok-emit_owed.ensures.after c.in_ok-emit_due.ensures.packets c.in_ok-emit_due.ensures.after).1
