use Rattle.std.proofs.Common.{Ok, Err}
use Rattle.cl_world.specs.Inputs.{input_of}
use Rattle.cl_world.proofs.Seats.{front_may, front_stepped, front_spends}
use Rattle.cl_world.proofs.front_seat.FrontSeat.step.Goals as goal

pub step-requires : goal.step-requires
step-requires c = front_may _ _ _ _ c.in-Here.is c.requires.fits.1 c.requires.fits.2

pub returns-in-Ok-clause-step : goal.returns-in-Ok-clause-step
returns-in-Ok-clause-step c = λ before here. front_stepped _ _ _ before (input_of c.args.given.now) c.in-Ok.outs c.in-Here.is here c.in-Ok.ensures.step

pub returns-in-Ok-clause-spent : goal.returns-in-Ok-clause-spent
returns-in-Ok-clause-spent c = λ before here. front_spends _ _ before (input_of c.args.given.now) (Ok c.in-Ok.outs) c.in-Here.is here c.in-Ok.ensures.spent

pub returns-in-Err-clause-spent : goal.returns-in-Err-clause-spent
returns-in-Err-clause-spent c = λ before here.
    front_spends _ _ before (input_of c.args.given.now) (Err c.in-Err.refused) c.in-Here.is here c.in-Err.ensures.spent
