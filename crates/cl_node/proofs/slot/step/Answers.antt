-- A log record is taken by the standby, and everything else by the primary.
use Rattle.std.proofs.Common.{sym, ◌∙◌}
use Rattle.cl_node.proofs.Roles.{other_spent, other_taken, record_taken}
use Rattle.cl_node.proofs.slot.step.Goals as goal
use Rattle.cl_vnode.specs.Step.{primary_in}
use Rattle.cl_wire.specs.Message.{content_of}

pub returns-then-is_record-clause-step : goal.returns-then-is_record-clause-step
returns-then-is_record-clause-step c before is =
    record_taken c.standby_step.new.self c.standby_step.result (primary_in c.args.roster.now.nodes c.args.roster.now.entries) before c.args.from
    (content_of c.args.body.now) (sym c.is_record.ensures ∙ c.if-is_record.true) (c.standby_step.ensures.step before is)

pub returns-else-is_record-clause-step : goal.returns-else-is_record-clause-step
returns-else-is_record-clause-step c before is =
    other_taken c.primary_step.new.self c.primary_step.result (primary_in c.args.roster.now.nodes c.args.roster.now.entries) before c.args.from
    (content_of c.args.body.now) (sym c.is_record.ensures ∙ c.if-is_record.false) (c.primary_step.ensures.step before is)

pub returns-else-is_record-clause-spent : goal.returns-else-is_record-clause-spent
returns-else-is_record-clause-spent c before is =
    other_spent c.primary_step.result before (content_of c.args.body.now) (sym c.is_record.ensures ∙ c.if-is_record.false)
    (c.primary_step.ensures.spent before is)
