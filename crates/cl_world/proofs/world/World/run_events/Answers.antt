use Rattle.std.proofs.lemmas.Result.{err_from_is_err_and}
use Rattle.cl_cluster.proofs.EveryRun.{every_input_fits}
use Rattle.cl_world.proofs.Follows.{begins, turn_may, turn_made, turn_refused, turns_end}
use Rattle.cl_world.proofs.world.World.run_events.Goals as goal

pub loop-event-init : goal.loop-event-init
loop-event-init c = λ shape run may. begins shape _ run _ may

pub take-requires : goal.take-requires
take-requires c =
    let shape = c.requires.0 in
    let run = c.requires.1 in
    turn_may every_input_fits shape c.args.self.now c.loop-event.self run c.args.events.now c.loop-event.event-index c.event-item.result c.loop-event-test.true c.event-item.is (c.loop-event.invariant shape run c.requires.2)

pub loop-event-preserved : goal.loop-event-preserved
loop-event-preserved c = λ shape run may.
    turn_made every_input_fits shape c.args.self.now c.loop-event.self c.take.new.self run c.args.events.now c.loop-event.event-index c.event-item.result c.loop-event-test.true c.event-item.is (c.loop-event.invariant shape run may) c.in_ok-take.ensures

pub returns-in_err-take : goal.returns-in_err-take
returns-in_err-take c = λ shape run may.
    let exit = err_from_is_err_and c.from_residual.result c.from_residual.ensures.1 in
    let stopped = turn_refused every_input_fits shape c.args.self.now c.loop-event.self c.take.new.self run c.args.events.now c.loop-event.event-index c.event-item.result c.in_err-take.field-0.0 c.loop-event-test.true c.event-item.is
    (c.loop-event.invariant shape run may) c.in_err-take.ensures in
    rw (exit.1, exit.2) stopped

pub returns : goal.returns
returns c = λ shape run may.
    turns_end shape c.args.self.now c.loop-event.self run c.args.events.now c.loop-event.event-index c.loop-event-test.false (c.loop-event.invariant shape run may)
