use Rattle.std.proofs.Common.{◌≡◌, take}
use Rattle.cl_types.specs.GrowingList.{items}
use Rattle.cl_wire.proofs.copies.copy_items.Given as goal

abbrev pub invariant-loop-item : goal.invariant-loop-item
invariant-loop-item l = items l.copy ≡ take l.item-index l.items
