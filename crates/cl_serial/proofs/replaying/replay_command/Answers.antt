-- The operation of a command, and a command that is no operation.
use Rattle.std.proofs.Common.{[], ◌∷◌, Option, IfOk, subst}
use Rattle.std.proofs.lemmas.Result.{IfOk-weaker}
use Rattle.cl_serial.specs.Exchanges.{Exchange}
use Rattle.cl_serial.specs.PlainMapModel.{value_at}
use Rattle.cl_serial.specs.Replaying.{Agrees, Replays, Tells}
use Rattle.cl_serial.specs.declared.replaying.Difference.{Difference}
use Rattle.cl_serial.proofs.FirstDifferences.{operation_done, other_command}
use Rattle.cl_serial.proofs.replaying.replay_command.Goals as goal

pub returns-in_ok-reply-in-Work : goal.returns-in_ok-reply-in-Work
returns-in_ok-reply-in-Work c =
    let seen : Exchange = record { command = c.exchange.inside.command; line = c.exchange.inside.line; answer = c.exchange.inside.answer } in
    let P : Exchange → Option Difference → Type 0 = λ exchange found. Replays (value_at c.args.plain.now) (exchange ∷ []) (value_at c.apply.new.self) found in
    subst (λ (exchange : Exchange). IfOk c.difference_of.result (P exchange)) c.exchange.view_is
    (IfOk-weaker c.difference_of.result (Tells c.exchange.inside.answer c.in_ok-reply-in-Work.reply) (P seen)
    (operation_done (value_at c.args.plain.now) (value_at c.apply.new.self) seen c.in-Work.table c.in-Work.key c.in-Work.op c.in_ok-reply-in-Work.reply c.in-Work.is c.in_ok-reply-in-Work.ensures.reply c.in_ok-reply-in-Work.ensures.ok)
    c.difference_of.ensures)

pub returns-in_default : goal.returns-in_default
returns-in_default c =
    let seen : Exchange = record { command = c.exchange.inside.command; line = c.exchange.inside.line; answer = c.exchange.inside.answer } in
    let values = value_at c.args.plain.now in
    subst (λ (exchange : Exchange). Agrees values (exchange ∷ []) values) c.exchange.view_is (other_command values seen c.in_default.not-Work)
