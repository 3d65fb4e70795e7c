use Rattle.std.proofs.Common.{◌≡◌, ◌++◌, map}
use Rattle.cl_wire.specs.Message.{message_of}
use Rattle.cl_world.specs.Mail.{messages_in, to_living}
use Rattle.cl_world.proofs.mail.keep_all.Given as goal

abbrev pub invariant-loop-packet : goal.invariant-loop-packet
invariant-loop-packet l = messages_in l.mail ≡ messages_in l.initial.mail ++ map (to_living l.living) (map message_of l.yielded)
