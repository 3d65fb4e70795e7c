use Rattle.cl_endpoint.proofs.Gives.{HasGiven}
use Rattle.cl_endpoint.proofs.endpoint.Endpoint.give_all.Given as goal

abbrev pub invariant-loop-send : goal.invariant-loop-send
invariant-loop-send l = HasGiven l.initial.self l.self l.yielded
