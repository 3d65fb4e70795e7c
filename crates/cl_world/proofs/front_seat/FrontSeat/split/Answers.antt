use Rattle.cl_world.proofs.Seats.{front_bared}
use Rattle.cl_world.proofs.front_seat.FrontSeat.split.Goals as goal

pub returns-in-Here-clause-front : goal.returns-in-Here-clause-front
returns-in-Here-clause-front c = λ state here. front_bared _ _ _ state c.in-Here.is here c.take_transcript-transcript.ensures.left
