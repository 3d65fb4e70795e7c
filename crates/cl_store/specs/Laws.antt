-- The laws of records in scan order.
use Rattle.std.specs.Prelude.{◌≡◌, List}
use Rattle.std.specs.List.{All}
use Rattle.cl_types.specs.Places.{Place}
use Rattle.cl_store.specs.declared.item.Item.{Item}
use Rattle.cl_store.specs.Items.{live, place_of, stored_at, IsInScanOrder, IsWritten}
use Rattle.cl_store.specs.Live.{HasLive}

-- in scan order each record is found by its place
abbrev pub RecordsAreFound : Type 0
RecordsAreFound = (items : List Item) → IsInScanOrder items → All (λ item. stored_at items (place_of item) ≡ (item.number, item.value)) items

-- what stands at each place determines the records
abbrev pub PlacesDetermineRecords : Type 0
PlacesDetermineRecords = (a b : List Item) → IsInScanOrder a → IsWritten a → IsInScanOrder b → IsWritten b →
    ((place : Place) → stored_at a place ≡ stored_at b place) → a ≡ b

-- in scan order as many places have a value as records do
abbrev pub LiveRecordsAreCounted : Type 0
LiveRecordsAreCounted = (items : List Item) → IsInScanOrder items → HasLive (stored_at items) (live items)
