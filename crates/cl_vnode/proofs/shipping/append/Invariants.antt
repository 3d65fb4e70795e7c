use Rattle.std.proofs.Common.{◌≡◌, ◌++◌, length}
use Rattle.std.specs.Vec.Iter.{into_iter_items}
use Rattle.cl_types.specs.GrowingList.{items}
use Rattle.cl_vnode.proofs.shipping.append.Given as goal

-- with the messages that are left, the list is what it is in the end
abbrev pub invariant-loop-message : goal.invariant-loop-message
invariant-loop-message l = items l.sends ++ into_iter_items l.others ≡ items l.fn.sends ++ l.fn.others.items.items

abbrev pub decreases-loop-message : goal.decreases-loop-message
decreases-loop-message l = length (into_iter_items l.others)
