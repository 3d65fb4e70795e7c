use Rattle.cl_schedule.specs.Turns.{is_gone, is_handled}
use Rattle.cl_schedule.proofs.Happens.{met_made}
use Rattle.cl_schedule.proofs.meeting.meet.Goals as goal

pub returns : goal.returns
returns c = λ shape run may.
    met_made shape c.args.world.now c.handle_where.new.world c.forget_where.new.world run (is_handled c.args.fate) (is_gone c.args.fate) c.is_handled.result c.is_gone.result c.args.id c.args.to may
    c.is_handled.ensures c.is_gone.ensures (c.in_ok-handle_where.ensures shape run may) c.forget_where.ensures.mail c.forget_where.ensures.sound
