-- A message that is accepted now: the core's step, with what the endpoint does before and after it.
use Rattle.std.proofs.Common.{◌≡◌, sym, subst}
use Rattle.std.proofs.lemmas.Result.{err_from_is_err_and}
use Rattle.cl_endpoint.specs.Endpoint.{EndpointState}
use Rattle.cl_wire.specs.Message.{message_of, content_of}
use Rattle.cl_actor.specs.Core.{noted_of}
use Rattle.cl_actor.proofs.Handling.{Accepts, accepts, accepted_is_step, accepted_is_spent, accepted_refusal_is_spent, sends_to_actors}
use Rattle.cl_actor.proofs.acting.ActingMachine.handle.Goals as goal
use Rattle.cl_actor.proofs.acting.ActingMachine.handle.Goals.{After-roster}

-- what was received, as the lemmas have it
meets : (g : _) (c : After-roster g) (before : EndpointState) → c.args.self.now.endpoint ≡ before →
    Accepts before c.receive-received.new.self c.owed_to-owed.result (noted_of c.roster.result.now) (message_of c.args.packet.now)
meets g c before same =
    accepts c.args.self.now.endpoint before c.receive-received.new.self c.receive-received.result c.owed_to-owed.result c.roster.result.now (message_of c.args.packet.now)
    same c.receive-received.ensures.received c.receive-received.ensures.after c.in-Now.is c.owed_to-owed.ensures
    c.roster.ensures.nodes c.roster.ensures.spares c.roster.ensures.entries

pub deliver-requires : goal.deliver-requires
deliver-requires g c =
    let fit = c.requires.fits in
    let met = meets g c fit.0.endpoint fit.1.1 in
    record { fits = (fit.0.core, fit.1.0, subst (λ noted. g.C.Core.delivery_fits noted fit.0.core c.args.packet.now.from (content_of c.args.packet.now.body)) (sym met.tells) (fit.2.core met.now)) }

pub returns-in_err-steps-in-Now-clause-spent : goal.returns-in_err-steps-in-Now-clause-spent
returns-in_err-steps-in-Now-clause-spent g c before is =
    let met = meets g (goal.at.returns-in_err-steps-in-Now-clause-spent g c).After-roster before.endpoint is.1 in
    let exit = err_from_is_err_and c.from_residual.result c.from_residual.ensures.1 in
    rw (exit.1, exit.2) (accepted_refusal_is_spent g.C.Core.delivered before (message_of c.args.packet.now) _ _ _ g.C.Core.is_delivery_spent c.in_err-steps-in-Now.field-0.0
    met (c.in_err-steps-in-Now.ensures.spent before.core is.0))

pub finish-requires-clause-sends : goal.finish-requires-clause-sends
finish-requires-clause-sends g c =
    let fit = c.requires.fits in
    let met = meets g (goal.at.finish-requires-clause-sends g c).After-roster fit.0.endpoint fit.1.1 in
    sends_to_actors g.C.Core.delivered fit.0 (message_of c.args.packet.now) _ c.in_ok-steps-in-Now.steps met.tells (c.in_ok-steps-in-Now.ensures.step fit.0.core fit.1.0).1
    (g.met.C.Core.fewer_by_mark _ _ _ _ _ fit.1.0) (fit.2.sends met.now)

pub returns-in_ok-steps-in-Now-clause-step : goal.returns-in_ok-steps-in-Now-clause-step
returns-in_ok-steps-in-Now-clause-step g c before is =
    let met = meets g (goal.at.returns-in_ok-steps-in-Now-clause-step g c).After-roster before.endpoint is.1 in
    accepted_is_step g.C.Core.delivered (g.C.Core.is_state c.finish.new.self.core) (g.C.Core.will_be c.deliver.new.self) before (message_of c.args.packet.now) _ _ _ _ c.in_ok-steps-in-Now.steps c.finish.result
    met (c.in_ok-steps-in-Now.ensures.step before.core is.0) c.finish.ensures.outs c.finish.ensures.endpoint c.finish.ensures.core

pub returns-in_ok-steps-in-Now-clause-spent : goal.returns-in_ok-steps-in-Now-clause-spent
returns-in_ok-steps-in-Now-clause-spent g c before is =
    let met = meets g (goal.at.returns-in_ok-steps-in-Now-clause-spent g c).After-roster before.endpoint is.1 in
    accepted_is_spent g.C.Core.delivered before (message_of c.args.packet.now) _ c.in_ok-steps-in-Now.steps met.tells (c.in_ok-steps-in-Now.ensures.step before.core is.0).1
    (g.met.C.Core.fewer_by_mark _ _ _ _ _ is.0) _ _ g.C.Core.is_delivery_spent c.finish.result met (c.in_ok-steps-in-Now.ensures.spent before.core is.0) c.finish.ensures.outs c.finish.ensures.spent
