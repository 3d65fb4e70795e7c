use Rattle.std.proofs.Common.{arith, rules}
use Rattle.std.proofs.lemmas.Fn.{always_returns_same}
use Rattle.std.proofs.lemmas.List.{length-map}
use Rattle.cl_types.specs.Places.{Place}
use Rattle.cl_store.specs.Index.{item_of, entry_order}
use Rattle.cl_store.specs.IndexedItems.{in_scan_order}
use Rattle.cl_store.proofs.Searches.{searched}
use Rattle.cl_store.proofs.indexed_items.IndexedItems.find.Goals as goal

-- the closure gives the order of an entry to the place that is looked for
pub returns : goal.returns
unfolding in_scan_order
returns c =
    let self = c.args.self.now in
    let facts = c.binary_search_by.ensures in
    let place : Place = (c.args.table.now, c.args.key.now) in
    let by_order = facts.position (entry_order c.as_slice-items.result.now place) (always_returns_same _ _ _ (λ a r f called. search rules)) in
    let parts = searched self.items.items self.index.items place self.in_order c.binary_search_by.result self.entries
    (rw (c.as_slice.ensures.value) at facts.bound)
    (rw (c.as_slice-items.ensures.value, c.as_slice.ensures.value) at by_order) in
    record { found = parts.found; absent = parts.absent; few = omega (arith, length-map self.index.items (item_of self.items.items)) }
