use Rattle.std.proofs.Common.{take}
use Rattle.cl_serial.specs.Gathering.{commands_at}
use Rattle.cl_serial.specs.PlainMapModel.{value_at}
use Rattle.cl_serial.specs.Replaying.{Agrees, replayed_commands}
use Rattle.cl_serial.proofs.replaying.replay_members.Given as goal

-- the commands of the members so far agree
abbrev pub invariant-loop-name : goal.invariant-loop-name
invariant-loop-name l = Agrees (value_at l.fn.plain) (replayed_commands (commands_at l.sessions) (take l.name-index l.name-items)) (value_at l.plain)
