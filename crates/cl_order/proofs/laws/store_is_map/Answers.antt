use Rattle.cl_order.proofs.Readings.{store_is_map}
use Rattle.cl_order.proofs.laws.store_is_map.Goals as goal

pub returns : goal.returns
returns c = store_is_map
