use Rattle.std.proofs.Common.{◌≡◌, take, flat_map}
use Rattle.cl_types.specs.GrowingList.{items}
use Rattle.cl_control.specs.Calls.{acts_of_told}
use Rattle.cl_control.proofs.control.Control.commits.Given as goal

abbrev pub invariant-loop-index : goal.invariant-loop-index
invariant-loop-index l = items l.acts ≡ flat_map (acts_of_told l.fn.self) (take l.index l.fn.self.waiting)
