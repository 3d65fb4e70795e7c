use Rattle.std.proofs.Common.{Err, ap, ◌∙◌}
use Rattle.cl_types.specs.Places.{Place}
use Rattle.cl_part.proofs.Operating.{answer_to-granted, answer_to-refused, IsStateOf-granted, IsStateOf-refused}
use Rattle.cl_part.proofs.part.Part.ask_op.Goals as goal

pub returns-in-Ok-clause-answer : goal.returns-in-Ok-clause-answer
returns-in-Ok-clause-answer c before is answered =
    let place : Place = (c.args.table.now, c.args.key.now) in
    answer_to-granted c.args.self.now before c.args.txn place c.args.op.now c.in-Ok.reply is c.in-Ok.ensures.free c.in-Ok.ensures.reply

pub returns-in-Ok-clause-state : goal.returns-in-Ok-clause-state
returns-in-Ok-clause-state c before is answered =
    let place : Place = (c.args.table.now, c.args.key.now) in
    IsStateOf-granted c.args.self.now c.carry_out.new.self before c.args.txn place c.args.op.now is c.in-Ok.ensures.free c.in-Ok.ensures.recorded

pub returns-in-Err-Held-clause-answer : goal.returns-in-Err-Held-clause-answer
returns-in-Err-Held-clause-answer c before is answered =
    let place : Place = (c.args.table.now, c.args.key.now) in
    answer_to-refused c.args.self.now before c.args.txn place c.args.op.now c.in-Err-Held.holder is
    (c.carry_out.ensures.held c.in-Err-Held.holder (c.in-Err-Held.is ∙ ap Err c.in-Err-Held.field-0-is))

pub returns-in-Err-Held-clause-state : goal.returns-in-Err-Held-clause-state
returns-in-Err-Held-clause-state c before is answered =
    let place : Place = (c.args.table.now, c.args.key.now) in
    IsStateOf-refused c.args.self.now c.carry_out.new.self before c.args.txn place c.args.op.now c.in-Err-Held.holder is
    (c.carry_out.ensures.held c.in-Err-Held.holder (c.in-Err-Held.is ∙ ap Err c.in-Err-Held.field-0-is)) c.in-Err-Held.ensures.err
