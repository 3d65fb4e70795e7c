-- What contracts see of a store.
use Rattle.std.specs.Prelude.{ℕ, List}
use Rattle.cl_types.specs.Places.{Place, Stored}
use Rattle.cl_store.specs.declared.item.Item.{Item}
use Rattle.cl_store.specs.declared.store.Store.{Store}
use Rattle.cl_store.specs.IndexedItems.{in_scan_order, spare}
use Rattle.cl_store.specs.Items.{stored_at}

-- the records of a store, in scan order
unfoldable pub records : Store → List Item
records store = in_scan_order store.items

-- for how many more records there is room
unfoldable pub room : Store → ℕ
room store = spare store.items

-- what stands at a place: the state number, which is 0 where it was never written, and the value
abbrev pub stored : Store → Place → Stored
stored store place = stored_at (records store) place
