-- One more member.
use Rattle.std.proofs.Common.{List, Option, get_or, subst}
use Rattle.cl_types.specs.declared.operations.TxnId.{TxnId}
use Rattle.cl_serial.specs.Exchanges.{Exchange}
use Rattle.cl_serial.specs.Gathering.{commands_at}
use Rattle.cl_serial.specs.PlainMapModel.{value_at}
use Rattle.cl_serial.specs.Verdict.{FirstDifference}
use Rattle.cl_serial.specs.Replaying.{Replays, replayed_commands}
use Rattle.cl_serial.specs.declared.replaying.Difference.{Difference}
use Rattle.cl_serial.proofs.FirstDifferences.{Agrees-nil, member_agrees, member_differs}
use Rattle.cl_serial.proofs.replaying.replay_members.Goals as goal

pub loop-name-init : goal.loop-name-init
loop-name-init c = Agrees-nil (value_at c.args.plain.now)

pub returns-in-Some : goal.returns-in-Some
returns-in-Some c =
    let P : List Exchange → Option Difference → Type 0 = λ commands found. Replays (value_at c.loop-name.plain) commands (value_at c.replay_commands.new.plain) found in
    let Q : List TxnId → Type 0 = λ history. FirstDifference (value_at c.args.plain.now) (replayed_commands (commands_at c.args.sessions.now) history) c.in-Some.difference.place c.in-Some.difference.written c.in-Some.difference.replayed in
    let none : TxnId = record { session = 0; number = 0 } in
    let name : TxnId = get_or c.as_slice-name-items.result.now c.loop-name.name-index none in
    subst Q c.as_slice-name-items.ensures
    (member_differs (value_at c.args.plain.now) (value_at c.loop-name.plain) (commands_at c.args.sessions.now) c.as_slice-name-items.result.now c.loop-name.name-index none _ _ _ c.loop-name-test.true c.loop-name.invariant
    (subst (P (commands_at c.args.sessions.now name)) c.in-Some.is
    (subst (λ (commands : List Exchange). P commands c.in_ok-difference.field-0) c.commands_of.ensures c.in_ok-difference.ensures)))

pub loop-name-preserved : goal.loop-name-preserved
loop-name-preserved c =
    let P : List Exchange → Option Difference → Type 0 = λ commands found. Replays (value_at c.loop-name.plain) commands (value_at c.replay_commands.new.plain) found in
    let none : TxnId = record { session = 0; number = 0 } in
    let name : TxnId = get_or c.as_slice-name-items.result.now c.loop-name.name-index none in
    member_agrees (value_at c.args.plain.now) (value_at c.loop-name.plain) (value_at c.replay_commands.new.plain) (commands_at c.args.sessions.now) c.as_slice-name-items.result.now c.loop-name.name-index none c.loop-name-test.true c.loop-name.invariant
    (subst (P (commands_at c.args.sessions.now name)) c.in_default.is
    (subst (λ (commands : List Exchange). P commands c.in_ok-difference.field-0) c.commands_of.ensures c.in_ok-difference.ensures))
