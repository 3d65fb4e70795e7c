use Rattle.cl_control.proofs.Decides.{decide_has_every_vote}
use Rattle.cl_control.proofs.laws.decide_has_every_vote.Goals as goal

pub returns : goal.returns
returns c = decide_has_every_vote
