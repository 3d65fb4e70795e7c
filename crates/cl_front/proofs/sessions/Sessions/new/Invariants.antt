use Rattle.std.proofs.Common.{◌≡◌, replicate}
use Rattle.cl_front.specs.Session.{no_session}
use Rattle.cl_front.proofs.sessions.Sessions.new.Given as goal

abbrev pub invariant-loop : goal.invariant-loop
invariant-loop l = l.sessions.items ≡ replicate l.counter no_session
