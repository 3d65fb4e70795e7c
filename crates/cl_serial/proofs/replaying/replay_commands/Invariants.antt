use Rattle.std.proofs.Common.{take}
use Rattle.cl_serial.specs.PlainMapModel.{value_at}
use Rattle.cl_serial.specs.Replaying.{Agrees}
use Rattle.cl_serial.proofs.replaying.replay_commands.Given as goal

-- the commands so far agree
abbrev pub invariant-loop-exchange : goal.invariant-loop-exchange
invariant-loop-exchange l = Agrees (value_at l.fn.plain) (take l.exchange-index l.commands) (value_at l.plain)
