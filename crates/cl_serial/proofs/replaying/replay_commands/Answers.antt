-- One more command.
use Rattle.std.proofs.Common.{[], ◌∷◌, Option, subst}
use Rattle.cl_serial.specs.PlainMapModel.{value_at}
use Rattle.cl_serial.specs.Replaying.{Replays}
use Rattle.cl_serial.specs.declared.replaying.Difference.{Difference}
use Rattle.cl_serial.proofs.FirstDifferences.{Agrees-nil, command_agrees, command_differs}
use Rattle.cl_serial.proofs.replaying.replay_commands.Goals as goal

pub loop-exchange-init : goal.loop-exchange-init
loop-exchange-init c = Agrees-nil (value_at c.args.plain.now)

pub returns-in-Some : goal.returns-in-Some
returns-in-Some c =
    let P : Option Difference → Type 0 = λ found. Replays (value_at c.loop-exchange.plain) (c.exchange-item.result ∷ []) (value_at c.replay_command.new.plain) found in
    command_differs _ _ _ _ _ _ _ _ c.loop-exchange-test.true c.exchange-item.is c.loop-exchange.invariant (subst P c.in-Some.is c.in_ok-difference.ensures)

pub loop-exchange-preserved : goal.loop-exchange-preserved
loop-exchange-preserved c =
    let P : Option Difference → Type 0 = λ found. Replays (value_at c.loop-exchange.plain) (c.exchange-item.result ∷ []) (value_at c.replay_command.new.plain) found in
    command_agrees _ _ _ _ _ _ c.loop-exchange-test.true c.exchange-item.is c.loop-exchange.invariant (subst P c.in_default.is c.in_ok-difference.ensures)
