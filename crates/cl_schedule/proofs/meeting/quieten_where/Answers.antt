use Rattle.cl_schedule.proofs.Happens.{made_of, nothing_made}
use Rattle.cl_schedule.proofs.Mays.{waited_may}
use Rattle.cl_schedule.proofs.meeting.quieten_where.Goals as goal

pub run_events-requires : goal.run_events-requires
run_events-requires c = (c.requires.0, c.requires.1, waited_may c.requires.0 c.args.world.now c.requires.1 c.args.waits c.requires.2 c.if-waits.true)

pub returns-then-waits : goal.returns-then-waits
returns-then-waits c = λ shape run may.
    rw c.if-waits.true
    (made_of shape c.args.world.now c.run_events.new.self run _ c.run_events.result (c.run_events.ensures shape run (waited_may shape c.args.world.now run c.args.waits may c.if-waits.true)))

pub returns-else-waits : goal.returns-else-waits
returns-else-waits c = λ shape run may. rw c.if-waits.false (nothing_made shape c.args.world.now run may.sound)
