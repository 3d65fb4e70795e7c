-- A log record may come where it fits the standby, and everything else where it fits the primary.
use Rattle.std.proofs.Common.{sym, ◌∙◌}
use Rattle.cl_node.proofs.Roles.{other_fits, record_fits}
use Rattle.cl_node.proofs.slot.may_come.Goals as goal
use Rattle.cl_wire.specs.Message.{content_of}

pub returns-then-is_record-clause-refused : goal.returns-then-is_record-clause-refused
returns-then-is_record-clause-refused c before is fits =
    c.admits_standby.ensures.refused before is
    (record_fits c.args.roster.now.nodes before (content_of c.args.body.now) (sym c.is_record.ensures ∙ c.if-is_record.true) fits)

pub returns-else-is_record-clause-refused : goal.returns-else-is_record-clause-refused
returns-else-is_record-clause-refused c before is fits =
    c.admits.ensures.refused before is
    (other_fits c.args.roster.now.nodes before (content_of c.args.body.now) (sym c.is_record.ensures ∙ c.if-is_record.false) fits)
