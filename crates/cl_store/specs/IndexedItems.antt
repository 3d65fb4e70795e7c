-- What private contracts see of records with an index. Public contracts see this only through `Store.antt`.
use Rattle.std.specs.Prelude.{ℕ, ◌-◌, min, List, vec_len, vec_capacity}
use Rattle.cl_store.specs.declared.item.Item.{Item}
use Rattle.cl_store.specs.declared.indexed_items.IndexedItems.{IndexedItems}
use Rattle.cl_store.specs.Index.{indexed}

-- the records in scan order
unfoldable pub in_scan_order : IndexedItems → List Item
in_scan_order records = indexed records.items.items records.index.items

-- for how many more records there is room: each takes an entry too
unfoldable pub spare : IndexedItems → ℕ
spare records = min (vec_capacity records.index - vec_len records.index) (vec_capacity records.items - vec_len records.items)
