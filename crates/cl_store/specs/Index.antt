-- An index of records in scan order. Contracts see this only through `Store.antt`.
use Rattle.std.specs.Prelude.{◌≡◌, ℕ, ◌<◌, List, [], map, length, slice_index_or, Option, Some, None}
use Rattle.std.specs.List.{slice_get}
use Rattle.std.specs.declared.cmp.Ordering.{Ordering}
use Rattle.std.specs.declared.cmp.Ordering.TheVariants.{Equal}
use Rattle.std.specs.Ordering.{nat_cmp, ordering_then}
use Rattle.std.specs.Cmp.Lexicographic.{slice_cmp}
use Rattle.cl_types.specs.Places.{Place}
use Rattle.cl_types.specs.Placement.{hash_of}
use Rattle.cl_store.specs.declared.item.Item.{Item}
use Rattle.cl_store.specs.declared.index_entry.IndexEntry.{IndexEntry}

-- what is said of a slot past the last: no entry has one
abbrev pub no_item : Item
no_item = record { table = []; key = []; number = 0; value = None }

-- the record in a slot
abbrev pub item_at : List Item → ℕ → Item
item_at items slot = slice_index_or items slot no_item

-- the record that an entry points to
abbrev pub item_of : List Item → IndexEntry → Item
item_of items entry = item_at items entry.slot

-- the records that the entries point to, in the order of the index
abbrev pub indexed : List Item → List IndexEntry → List Item
indexed items index = map (item_of items) index

-- the entry points to one of the records, and has the hash of its key
pub record IsEntryOf (items : List Item) (entry : IndexEntry) : Type 0 where
  pub in_range : entry.slot < length items
  pub hashed : entry.hash ≡ hash_of (item_of items entry).key

-- places are compared by table, then by key
abbrev pub names_order : Option Item → Place → Ordering
names_order None place = Equal
names_order (Some item) place = ordering_then (slice_cmp nat_cmp item.table place.0) (slice_cmp nat_cmp item.key place.1)

-- an entry is compared to a place by its hash, then by its record
abbrev pub entry_order : List Item → Place → IndexEntry → Ordering
entry_order items place entry = ordering_then (nat_cmp entry.hash (hash_of place.1)) (names_order (slice_get items entry.slot) place)
