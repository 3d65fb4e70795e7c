use Rattle.cl_schedule.proofs.Happens.{made_of}
use Rattle.cl_schedule.proofs.Mays.{tick_may}
use Rattle.cl_schedule.proofs.meeting.pass.Goals as goal

pub run_events-requires : goal.run_events-requires
run_events-requires c = (c.requires.0, c.requires.1, tick_may c.requires.0 c.args.world.now c.requires.1 c.args.actor c.requires.2 c.requires.3)

pub returns : goal.returns
returns c = λ shape run sound lives.
    made_of shape c.args.world.now c.run_events.new.self run _ c.run_events.result (c.run_events.ensures shape run (tick_may shape c.args.world.now run c.args.actor sound lives))
