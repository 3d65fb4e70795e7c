use Rattle.std.proofs.Common.{◌≡◌, take}
use Rattle.cl_types.specs.GrowingList.{items}
use Rattle.cl_store.specs.Index.{indexed}
use Rattle.cl_store.proofs.indexed_items.copied_items.Given as goal

abbrev pub invariant-loop-entry : goal.invariant-loop-entry
invariant-loop-entry l = items l.list ≡ indexed l.kept (take l.entry-index l.entries)
