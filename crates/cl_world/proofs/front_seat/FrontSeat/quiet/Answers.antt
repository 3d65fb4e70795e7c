use Rattle.cl_world.proofs.Seats.{front_quiets}
use Rattle.cl_world.proofs.front_seat.FrontSeat.quiet.Goals as goal

pub returns-clause-ok : goal.returns-clause-ok
returns-clause-ok c = λ before here. front_quiets _ _ _ _ _ c.in-Here.is here c.quiet.ensures.ok
