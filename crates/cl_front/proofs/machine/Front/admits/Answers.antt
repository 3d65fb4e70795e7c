-- The front's state is that of its core, with its endpoint.
use Rattle.std.proofs.Common.{refl, subst}
use Rattle.cl_front.specs.Machine.{FrontMachineState, endpoint_in}
use Rattle.cl_front.specs.FrontCore.{IsFront}
use Rattle.cl_front.proofs.Admitting.{handling_fits, lawfully}
use Rattle.cl_front.proofs.machine.Front.admits.Goals as goal
use Rattle.cl_wire.specs.Message.{message_of}

pub returns-then-expects_outcome-clause-admitted : goal.returns-then-expects_outcome-clause-admitted
returns-then-expects_outcome-clause-admitted c is =
    let core = c.is_ready.ensures.told is in
    let before : FrontMachineState = record { core = core.0; endpoint = endpoint_in c.args.self.now } in (
      before,
      (subst (λ one. IsFront one core.0) c.core.ensures core.1, refl),
      handling_fits before core.2 (lawfully c.roster.result.now (endpoint_in c.args.self.now) c.roster.ensures c.rosters_are_lawful.ensures.size c.rosters_are_lawful.ensures.lawful)
          (message_of c.args.packet.now) c.if-packet-ge-ACTORS.false (c.expects_outcome.ensures.told c.if-expects_outcome.true),
    )
