use Rattle.cl_order.proofs.Readings.{beginnings_settle_alike}
use Rattle.cl_order.proofs.laws.beginnings_settle_alike.Goals as goal

pub returns : goal.returns
returns c = beginnings_settle_alike
