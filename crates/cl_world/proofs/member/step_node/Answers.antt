use Rattle.std.proofs.Common.{Ok, Err}
use Rattle.cl_world.specs.Inputs.{input_of}
use Rattle.cl_world.proofs.Seats.{node_may, node_stepped, node_spends}
use Rattle.cl_world.proofs.member.step_node.Goals as goal

pub step-requires : goal.step-requires
step-requires c = node_may _ _ c.requires.fits.0 _ _ c.in-Some.is c.requires.fits.2 c.requires.fits.3

pub returns-in-Ok-clause-step : goal.returns-in-Ok-clause-step
returns-in-Ok-clause-step c = λ actor before here. node_stepped _ _ _ actor before (input_of c.args.given.now) c.in-Ok.outs c.in-Some.is here c.in-Ok.ensures.step

pub returns-in-Ok-clause-spent : goal.returns-in-Ok-clause-spent
returns-in-Ok-clause-spent c = λ actor before here.
    node_spends _ _ actor before (input_of c.args.given.now) (Ok c.in-Ok.outs) c.in-Some.is here c.in-Ok.ensures.spent

pub returns-in-Err-clause-spent : goal.returns-in-Err-clause-spent
returns-in-Err-clause-spent c = λ actor before here.
    node_spends _ _ actor before (input_of c.args.given.now) (Err c.in-Err.refused) c.in-Some.is here c.in-Err.ensures.spent
