use Rattle.std.proofs.Common.{sym}
use Rattle.cl_post.specs.Steps.{IsSpentByMark}
use Rattle.cl_world.specs.Actors.{MayAct, IsActorStep}
use Rattle.cl_world.specs.Inputs.{input_of, is_input_spent}
use Rattle.cl_world.specs.Happenings.{happening_of}
use Rattle.cl_world.specs.Taking.{actor_of, input_at, is_event_spent}
use Rattle.cl_world.proofs.Seats.{spent_alike}
use Rattle.cl_world.proofs.Takes.{along, may_act, step_spends}
use Rattle.cl_world.proofs.world.World.act.Goals as goal

pub step-requires : goal.step-requires
step-requires c =
    let shape = c.requires.may.0 in
    let moment = c.requires.may.1 in
    let at = c.requires.may.2 in
    let may = c.requires.may.3 in
    let event = c.args.event.now in (
      shape,
      moment.actors,
      along (MayAct shape c.args.self.now.actors moment.actors) (actor_of event) c.actor_in.result (input_at moment (happening_of event)) (input_of c.given_by-given.result)
          (sym c.actor_in.ensures) (sym (c.given_by-given.ensures moment at.mail)) (may_act shape c.args.self.now moment event c.requires.step at may),
    )

pub returns-clause-step : goal.returns-clause-step
returns-clause-step c = λ shape moment at may.
    let event = c.args.event.now in
    let mine = along (MayAct shape c.args.self.now.actors moment.actors) (actor_of event) c.actor_in.result (input_at moment (happening_of event)) (input_of c.given_by-given.result)
    (sym c.actor_in.ensures) (sym (c.given_by-given.ensures moment at.mail)) (may_act shape c.args.self.now moment event c.requires.step at may) in
    along (λ a i. IsActorStep shape c.step.new.self moment.actors a i c.step.result) c.actor_in.result (actor_of event) (input_of c.given_by-given.result) (input_at moment (happening_of event))
    c.actor_in.ensures (c.given_by-given.ensures moment at.mail) (c.step.ensures.step shape moment.actors mine)

pub returns-clause-spent : goal.returns-clause-spent
returns-clause-spent c = λ shape moment at may.
    let event = c.args.event.now in
    let mine = along (MayAct shape c.args.self.now.actors moment.actors) (actor_of event) c.actor_in.result (input_at moment (happening_of event)) (input_of c.given_by-given.result)
    (sym c.actor_in.ensures) (sym (c.given_by-given.ensures moment at.mail)) (may_act shape c.args.self.now moment event c.requires.step at may) in
    spent_alike (is_input_spent (actor_of event) (moment.actors (actor_of event)) (input_at moment (happening_of event)))
    (is_event_spent moment event) c.step.result
    (λ mark. step_spends moment event mark c.requires.step)
    (along (λ a i. IsSpentByMark (is_input_spent a (moment.actors a) i) c.step.result) c.actor_in.result (actor_of event)
    (input_of c.given_by-given.result) (input_at moment (happening_of event))
    c.actor_in.ensures (c.given_by-given.ensures moment at.mail) (c.step.ensures.spent shape moment.actors mine))
