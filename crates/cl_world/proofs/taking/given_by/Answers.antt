use Rattle.std.proofs.Common.{ap, ◌∙◌}
use Rattle.cl_ranked.specs.Slots.{slot_at}
use Rattle.cl_world.proofs.Takes.{packet_given}
use Rattle.cl_world.proofs.taking.given_by.Goals as goal

pub returns-in-Some : goal.returns-in-Some
returns-in-Some c = λ moment kept.
    packet_given c.args.mail.now moment _ c.in-Handle.id c.args.event.now c.in-Some.packet.now c.in-Handle.is
    (c.in-Some.ensures ∙ ap (slot_at c.args.mail.now) c.saturating_sub.ensures) kept
