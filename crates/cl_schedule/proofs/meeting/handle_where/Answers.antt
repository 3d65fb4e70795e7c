use Rattle.cl_schedule.proofs.Happens.{made_of, nothing_made}
use Rattle.cl_schedule.proofs.Mays.{handle_may}
use Rattle.cl_schedule.proofs.meeting.handle_where.Goals as goal

pub run_events-requires : goal.run_events-requires
run_events-requires c = (c.requires.0, c.requires.1, handle_may c.requires.0 c.args.world.now c.requires.1 c.args.id c.args.to c.requires.2)

pub returns-then-handled : goal.returns-then-handled
returns-then-handled c = λ shape run may.
    rw c.if-handled.true
    (made_of shape c.args.world.now c.run_events.new.self run _ c.run_events.result (c.run_events.ensures shape run (handle_may shape c.args.world.now run c.args.id c.args.to may)))

pub returns-else-handled : goal.returns-else-handled
returns-else-handled c = λ shape run may. rw c.if-handled.false (nothing_made shape c.args.world.now run may.sound)
