-- What holds of the records of every store.
use Rattle.std.proofs.Common.{◌≤◌, get_or}
use Rattle.std.proofs.lemmas.List.Elements.{All-map}
use Rattle.cl_store.specs.declared.item.Item.{Item}
use Rattle.cl_store.specs.declared.indexed_items.IndexedItems.{IndexedItems}
use Rattle.cl_store.specs.declared.store.Store.{Store}
use Rattle.cl_store.specs.Index.{no_item, item_of}
use Rattle.cl_store.specs.IndexedItems.{in_scan_order}
use Rattle.cl_store.specs.Items.{IsInScanOrder, IsWritten}
use Rattle.cl_store.specs.Store.{records}

pub IsInScanOrder-indexed : (indexed : IndexedItems) → IsInScanOrder (in_scan_order indexed)
unfolding in_scan_order
IsInScanOrder-indexed indexed = indexed.in_order

IsWritten-indexed : (indexed : IndexedItems) → IsWritten (in_scan_order indexed)
unfolding in_scan_order
IsWritten-indexed indexed =
    All-map (λ (item : Item). 1 ≤ item.number) (item_of indexed.items.items) indexed.index.items
    (λ k d inside. indexed.written (get_or indexed.index.items k d).slot no_item (indexed.entries k d inside).in_range)

pub IsInScanOrder-records : (store : Store) → IsInScanOrder (records store)
unfolding records
IsInScanOrder-records store = IsInScanOrder-indexed store.items

pub IsWritten-records : (store : Store) → IsWritten (records store)
unfolding records
IsWritten-records store = IsWritten-indexed store.items
